use Rattle.std.proofs.Common.{◌≡◌}
use Rattle.xsd_places.specs.Kinds.{is_kind}
use Rattle.xsd_places.specs.declared.kind.Kind.TheVariants as kind
use Rattle.xsd_declared.specs.Lists.{element_at}
use Rattle.xsd_declared.proofs.Listed.{listed}
use Rattle.xsd_declared.proofs.lists.elements_of.Given as goal

abbrev pub invariant-loop-place : goal.invariant-loop-place
invariant-loop-place l = l.found ≡ listed (element_at l.fn.places) (is_kind kind.Element l.fn.places) l.place
