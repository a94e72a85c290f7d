use Rattle.std.proofs.Common.{take}
use Rattle.exi_gram.specs.Candidates.{FindInStates}
use Rattle.exi_codes.proofs.make.indexes_for.Given as goal

abbrev pub invariant-loop-state : goal.invariant-loop-state
invariant-loop-state l = FindInStates l.indexes (take l.state-index l.states)
