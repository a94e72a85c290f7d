use Rattle.std.proofs.Common.{◌≡◌, take}
use Rattle.std.specs.List.{flat_map}
use Rattle.exi_vocabulary.specs.Collected.{with_texts}
use Rattle.exi_vocabulary.specs.FirstNames.{particle_uris}
use Rattle.exi_vocabulary.proofs.tables.add_particles.Given as goal

abbrev pub invariant-loop-particle : goal.invariant-loop-particle
invariant-loop-particle l = l.uris ≡ with_texts l.fn.uris (flat_map particle_uris (take l.particle-index l.particles))
