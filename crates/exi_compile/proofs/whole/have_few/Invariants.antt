use Rattle.std.proofs.Common.{map, take}
use Rattle.exi_gram.specs.Terminals.{rules_of}
use Rattle.exi_compile.specs.Whole.{AreFew}
use Rattle.exi_compile.proofs.whole.have_few.Given as goal

abbrev pub invariant-loop-grammar : goal.invariant-loop-grammar
invariant-loop-grammar l = AreFew (map rules_of (take l.grammar-index l.grammars))
