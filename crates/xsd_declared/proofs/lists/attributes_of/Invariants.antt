use Rattle.std.proofs.Common.{◌≡◌}
use Rattle.xsd_places.specs.Kinds.{is_kind}
use Rattle.xsd_places.specs.declared.kind.Kind.TheVariants as kind
use Rattle.xsd_declared.specs.Decls.{attribute_decl}
use Rattle.xsd_declared.proofs.Listed.{listed}
use Rattle.xsd_declared.proofs.lists.attributes_of.Given as goal

abbrev pub invariant-loop-place : goal.invariant-loop-place
invariant-loop-place l = l.found ≡ listed (attribute_decl l.fn.places) (is_kind kind.Attribute l.fn.places) l.place
