use Rattle.std.proofs.Common.{◌≡◌}
use Rattle.xsd_places.specs.Kinds.{is_kind}
use Rattle.xsd_places.specs.declared.kind.Kind.TheVariants as kind
use Rattle.xsd_declared.specs.Decls.{attribute_group}
use Rattle.xsd_declared.proofs.Listed.{listed}
use Rattle.xsd_declared.proofs.lists.attribute_groups_of.Given as goal

abbrev pub invariant-loop-place : goal.invariant-loop-place
invariant-loop-place l = l.found ≡ listed (attribute_group l.fn.places) (is_kind kind.AttributeGroup l.fn.places) l.place
