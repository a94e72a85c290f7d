use Rattle.std.proofs.Common.{length}
use Rattle.exi_builtin.proofs.grammar_list.GrammarList.clear.Given as goal

abbrev pub decreases-loop-self : goal.decreases-loop-self
decreases-loop-self l = length l.self
