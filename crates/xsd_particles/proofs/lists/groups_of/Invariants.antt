use Rattle.std.proofs.Common.{◌≡◌}
use Rattle.xsd_places.specs.Kinds.{is_kind}
use Rattle.xsd_places.specs.declared.kind.Kind.TheVariants as kind
use Rattle.xsd_particles.specs.Particles.{group_decl}
use Rattle.xsd_declared.proofs.Listed.{listed}
use Rattle.xsd_particles.proofs.lists.groups_of.Given as goal

abbrev pub invariant-loop-place : goal.invariant-loop-place
invariant-loop-place l = l.found ≡ listed (group_decl l.fn.places) (is_kind kind.Group l.fn.places) l.place
