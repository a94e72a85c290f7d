use Rattle.std.proofs.Common.{◌≡◌, ◌+◌, ◌*◌, ◌++◌, drop, map}
use Rattle.exi_gram.specs.Terminals.{step_rule}
use Rattle.exi_proto.specs.Places.{starts_evenly}
use Rattle.exi_proto.proofs.leaves.starts_evenly.Given as goal

abbrev pub invariant-loop-place : goal.invariant-loop-place
invariant-loop-place l =
    (l.at ≡ l.fn.first + 2 * l._place-index)
    × (map step_rule l.steps ++ starts_evenly l.at (drop l._place-index l.fn.places) ≡ starts_evenly l.fn.first l.fn.places)
