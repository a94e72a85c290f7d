use Rattle.std.proofs.Common.{◌≡◌, ◌<◌, ◌+◌, ◌++◌, All, drop, length, map}
use Rattle.exi_counts.specs.Counts.{sum_of}
use Rattle.exi_proto.specs.Attributes.{made_of}
use Rattle.exi_proto.specs.Contents.{line_left}
use Rattle.exi_proto.specs.Pieces.{counts_of, particles_of}
use Rattle.exi_proto.specs.Protos.{piece_of}
use Rattle.exi_proto.specs.Tasks.{Fits}
use Rattle.exi_proto.proofs.contents.particles_line.Given as goal

abbrev pub invariant-loop-particle : goal.invariant-loop-particle
invariant-loop-particle l =
    (l.left + l.particle-index ≡ length l.fn.particles)
    × All (λ place. place < length l.fn.counts.particles) (drop l.particle-index l.fn.particles)
    × Fits l.spot (sum_of (counts_of (map (piece_of l.fn.counts) (drop l.particle-index l.fn.particles)))) (particles_of (map (piece_of l.fn.counts) (drop l.particle-index l.fn.particles)))
    × (made_of l.made ++ line_left l.spot.first l.spot.before l.spot.next (map (piece_of l.fn.counts) (drop l.particle-index l.fn.particles)) ≡ made_of l.fn.states ++ line_left l.fn.first.first l.fn.first.before l.fn.first.next (map (piece_of l.fn.counts) l.fn.particles))
