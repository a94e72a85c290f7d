use Rattle.std.proofs.Common.{◌≡◌}
use Rattle.xsd_places.specs.Kinds.{is_kind}
use Rattle.xsd_places.specs.declared.kind.Kind.TheVariants as kind
use Rattle.xsd_particles.specs.Particles.{particle}
use Rattle.xsd_declared.proofs.Listed.{listed}
use Rattle.xsd_particles.proofs.lists.particles_of.Given as goal

abbrev pub invariant-loop-place : goal.invariant-loop-place
invariant-loop-place l = l.found ≡ listed (particle l.fn.places) (is_kind kind.Particle l.fn.places) l.place
