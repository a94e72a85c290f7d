use Rattle.std.proofs.Common.{◌≡◌, ◌≤◌, ◌<◌, ◌+◌, ◌++◌, All, drop, length, map}
use Rattle.exi_gram.specs.Terminals.{step_rule}
use Rattle.exi_counts.specs.Counts.{most_states, sum_of}
use Rattle.exi_proto.specs.Places.{starts_by}
use Rattle.exi_proto.specs.Pieces.{counts_of}
use Rattle.exi_proto.specs.Protos.{piece_of}
use Rattle.exi_proto.proofs.turns.starts_of.Given as goal

abbrev pub invariant-loop-place : goal.invariant-loop-place
invariant-loop-place l =
    (l.at + sum_of (counts_of (map (piece_of l.fn.counts) (drop l.place-index l.fn.places))) ≤ most_states)
    × All (λ place. place < length l.fn.counts.particles) (drop l.place-index l.fn.places)
    × (map step_rule l.steps ++ starts_by l.at (counts_of (map (piece_of l.fn.counts) (drop l.place-index l.fn.places))) ≡ starts_by l.fn.first (counts_of (map (piece_of l.fn.counts) l.fn.places)))
