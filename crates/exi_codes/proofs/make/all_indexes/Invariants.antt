use Rattle.std.proofs.Common.{take}
use Rattle.exi_gram.specs.Candidates.{FindInAll}
use Rattle.exi_codes.proofs.make.all_indexes.Given as goal

abbrev pub invariant-loop-grammar : goal.invariant-loop-grammar
invariant-loop-grammar l = FindInAll l.indexes (take l.grammar-index l.states)
