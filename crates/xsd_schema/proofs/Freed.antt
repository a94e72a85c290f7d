-- Where an element shows no fault, nothing is wrong with it that steps ask.
use Rattle.std.proofs.Common.{◌≡◌, ℕ, ◌<◌, Bool, true, false, ◌&&◌, Option, Some, None, List, [], ◌∷◌, length, refl}
use Rattle.xsd_tree.specs.declared.node.Node.{Node}
use Rattle.xsd_nodes.specs.Nodes.{holder, is_among_at, is_skipped, text_at}
use Rattle.xsd_nodes.specs.PartNames.{is_among}
use Rattle.xsd_nodes.specs.declared.attribute_name.AttributeName.TheVariants as attribute
use Rattle.xsd_nodes.specs.declared.part.Part.TheVariants as part
use Rattle.xsd_components.specs.References.{base}
use Rattle.xsd_components.specs.declared.type_at.TypeAt.{TypeAt}
use Rattle.xsd_conditions.specs.Conditions.{if_told, is_missing}
use Rattle.xsd_schema.specs.Fitting.{is_no_base}
use Rattle.xsd_schema.proofs.Free.{IsFree}
use Rattle.xsd_schema.proofs.Steps.{AreSure}
use Rattle.xsd_schema.proofs.Sure.{IsSure}

-- a base that is not there fits nowhere
none_missing : (asked : Bool) (text : Option (List ℕ)) → (asked && if_told text false) ≡ false
none_missing true None = refl
none_missing true (Some text) = refl
none_missing false text = refl

base_missing : (ns : List Node) (i : ℕ) (asked : Bool) (text : Option (List ℕ)) (o : Option TypeAt) → (asked && if_told text (is_no_base ns i o)) ≡ false → (asked && if_told text (is_missing o)) ≡ false
base_missing ns i asked text None e = e
base_missing ns i asked text (Some t) e = none_missing asked text

pub sure_from : (joined : Bool) (ns : List Node) (i : ℕ) → IsFree joined ns i → IsSure ns i
sure_from joined ns i f = record {
  known = f.unknown;
  base_told = f.no_base;
  base_held = f.nothing_restricted;
  simple_base = f.no_simple_base;
  content_base = base_missing ns i (is_among_at ns (part.Restriction ∷ part.Extension ∷ []) i && is_among (part.SimpleContent ∷ part.ComplexContent ∷ []) (holder ns i)) (text_at ns attribute.Base i) (base ns i) f.no_fitting_base;
  item_told = f.no_item_type;
  item_there = f.no_item;
  members_there = f.no_member;
  reference_told = f.no_reference;
  reference_there = f.missing;
  head_there = f.no_head;
  no_circle = f.circular;
}

pub are_sure : (joined : Bool) (ns : List Node) → ((i : ℕ) → i < length ns → is_skipped ns i ≡ false → IsFree joined ns i) → AreSure ns
are_sure joined ns free i less e = sure_from joined ns i (free i less e)
