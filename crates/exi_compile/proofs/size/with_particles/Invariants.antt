use Rattle.std.proofs.Common.{◌≡◌, ◌+◌, ◌≤◌, flat_map, length, take}
use Rattle.exi_vocabulary.specs.FirstNames.{particle_uris}
use Rattle.exi_compile.proofs.size.with_particles.Given as goal

abbrev pub invariant-loop-particle : goal.invariant-loop-particle
invariant-loop-particle l = record {
  counted : l.all ≡ l.count + length (flat_map particle_uris (take l.particle-index l.particles));
  few : l.all ≤ 268435456;
}
