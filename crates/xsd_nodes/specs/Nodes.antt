-- What an element of a schema document is, and what stands around it. Everything is found by search over the elements,
-- which are named by their places.
use Rattle.std.specs.Prelude.{ℕ, zero, suc, ◌==◌, Bool, true, false, ◌&&◌, not, Option, Some, None, List, [], ◌∷◌, length, filter, slice_get, if◌then◌else◌}
use Rattle.std.specs.List.{list_any}
use Rattle.std.specs.Str.{bytes_eq}
use Rattle.exi_names.specs.declared.names.QName.{QName}
use Rattle.xsd_tree.specs.Trees.{xsd}
use Rattle.xsd_tree.specs.declared.node.Node.{Node}
use Rattle.xsd_nodes.specs.declared.part.Part.{Part}
use Rattle.xsd_nodes.specs.declared.part.Part.TheVariants as part
use Rattle.xsd_nodes.specs.AttributeNames.{attribute_word}
use Rattle.xsd_nodes.specs.declared.attribute_name.AttributeName.{AttributeName}
use Rattle.xsd_nodes.specs.declared.attribute_name.AttributeName.TheVariants as attribute
use Rattle.xsd_nodes.specs.PartNames.{is_among, is_part, part_named}

-- ---- an element
abbrev pub part_of : Node → Part
part_of n = if bytes_eq n.name.uri xsd then part_named n.name.local else part.Other

abbrev pub part_in : Option Node → Part
part_in None = part.Other
part_in (Some n) = part_of n

abbrev pub parent_in : Option Node → Option ℕ
parent_in None = None
parent_in (Some n) = n.parent

-- the text of the first attribute of this local name without a namespace
abbrev pub text_in : List ℕ → List (QName × List ℕ) → Option (List ℕ)
text_in name [] = None
text_in name (a ∷ more) = if bytes_eq a.0.uri [] && bytes_eq a.0.local name then Some a.1 else text_in name more

abbrev pub attribute_in : List ℕ → Option Node → Option (List ℕ)
attribute_in name None = None
attribute_in name (Some n) = text_in name n.attributes

module _ (ns : List Node) where
  abbrev pub part_at : ℕ → Part
  part_at i = part_in (slice_get ns i)

  abbrev pub parent_at : ℕ → Option ℕ
  parent_at i = parent_in (slice_get ns i)

  -- the text of an attribute, where it stands
  abbrev pub text_at : AttributeName → ℕ → Option (List ℕ)
  text_at name i = attribute_in (attribute_word name) (slice_get ns i)

  abbrev pub is_at : Part → ℕ → Bool
  is_at p i = is_part p (part_at i)

  abbrev pub is_among_at : List Part → ℕ → Bool
  is_among_at ps i = is_among ps (part_at i)

-- whether an attribute stands
abbrev pub has : {X : Type 0} → Option X → Bool
has None = false
has (Some x) = true

-- what follows from a place that may be there
abbrev pub part_above : List Node → Option ℕ → Part
part_above ns None = part.Other
part_above ns (Some i) = part_at ns i

-- ---- all places
abbrev pub places_from : ℕ → List Node → List ℕ
places_from i [] = []
places_from i (n ∷ ns) = i ∷ places_from (suc i) ns

abbrev pub places : List Node → List ℕ
places ns = places_from 0 ns

-- ---- around an element
abbrev pub is_place : ℕ → Option ℕ → Bool
is_place i None = false
is_place i (Some j) = i == j

-- those directly within it that are of these parts, in order
abbrev pub is_child : List Node → List Part → ℕ → ℕ → Bool
is_child ns ps i j = is_place i (parent_at ns j) && is_among_at ns ps j

abbrev pub children : List Node → List Part → ℕ → List ℕ
children ns ps i = filter (is_child ns ps i) (places ns)

abbrev pub first : List ℕ → Option ℕ
first [] = None
first (i ∷ is) = Some i

abbrev pub child : List Node → List Part → ℕ → Option ℕ
child ns ps i = first (children ns ps i)

-- what the element holds that is at a place, if any
abbrev pub child_of : List Node → List Part → Option ℕ → Option ℕ
child_of ns ps None = None
child_of ns ps (Some i) = child ns ps i

-- what the element that holds it is
abbrev pub holder : List Node → ℕ → Part
holder ns i = part_above ns (parent_at ns i)

-- what the one that holds that is
abbrev pub parent_of : List Node → Option ℕ → Option ℕ
parent_of ns None = None
parent_of ns (Some i) = parent_at ns i

abbrev pub second_holder : List Node → ℕ → Part
second_holder ns i = part_above ns (parent_of ns (parent_at ns i))

-- it and those that it lies in, innermost first; they are no more than there are elements
abbrev pub outwards_from : ℕ → List Node → Option ℕ → List ℕ
outwards_from zero ns i = []
outwards_from (suc n) ns None = []
outwards_from (suc n) ns (Some i) = i ∷ outwards_from n ns (parent_at ns i)

abbrev pub outwards : List Node → ℕ → List ℕ
outwards ns i = outwards_from (length ns) ns (Some i)

-- an annotation and what it holds have no effect
abbrev pub is_skipped : List Node → ℕ → Bool
is_skipped ns i = list_any (is_at ns part.Annotation) (outwards ns i)

-- the schema that it lies in
abbrev pub last_of : ℕ → List ℕ → ℕ
last_of i [] = i
last_of i (j ∷ js) = last_of j js

abbrev pub root : List Node → ℕ → ℕ
root ns i = last_of i (outwards ns i)

-- a text that may be absent, empty then
abbrev pub or_empty : Option (List ℕ) → List ℕ
or_empty None = []
or_empty (Some t) = t

-- the target namespace of the schema that it lies in, empty where it has none
abbrev pub target : List Node → ℕ → List ℕ
target ns i = or_empty (text_at ns attribute.TargetNamespace (root ns i))

-- directly within a schema
abbrev pub is_root : List Node → Option ℕ → Bool
is_root ns None = false
is_root ns (Some i) = not (has (parent_at ns i))

abbrev pub is_global : List Node → ℕ → Bool
is_global ns i = is_root ns (parent_at ns i)
