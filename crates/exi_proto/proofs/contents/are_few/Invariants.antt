use Rattle.std.proofs.Common.{◌<◌, ◌≤◌, All, drop, length, map}
use Rattle.exi_proto.specs.Pieces.{particles_of}
use Rattle.exi_proto.specs.Protos.{piece_of}
use Rattle.exi_proto.specs.Tasks.{most_particles}
use Rattle.exi_proto.proofs.contents.are_few.Given as goal

abbrev pub invariant-loop-particle : goal.invariant-loop-particle
invariant-loop-particle l =
    (particles_of (map (piece_of l.fn.counts) (drop l.particle-index l.fn.particles)) ≤ l.left → particles_of (map (piece_of l.fn.counts) l.fn.particles) ≤ most_particles)
    × All (λ place. place < length l.fn.counts.particles) (drop l.particle-index l.fn.particles)
    × (l.left ≤ most_particles)
