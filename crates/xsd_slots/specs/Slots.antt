-- Where an element of a schema document may stand (XML Schema 1.0 Part 1, appendix A): what may stand within each
-- element, in which order.
use Rattle.std.specs.Prelude.{ℕ, zero, suc, Bool, true, false, ◌||◌, ◌&&◌, nat_lt, Option, Some, None, List, [], ◌∷◌, if◌then◌else◌}
use Rattle.std.specs.List.{find}
use Rattle.xsd_tree.specs.declared.node.Node.{Node}
use Rattle.xsd_document.specs.Held.{holds}
use Rattle.xsd_nodes.specs.Nodes.{has, holder, is_among_at, is_at, parent_at, part_at, text_at}
use Rattle.xsd_nodes.specs.PartNames.{is_among, is_part}
use Rattle.xsd_nodes.specs.declared.attribute_name.AttributeName.TheVariants as attribute
use Rattle.xsd_nodes.specs.declared.part.Part.{Part}
use Rattle.xsd_nodes.specs.declared.part.Part.TheVariants as part

-- These parts may stand where what stands before them has come to no later slot than `after`; they bring it to `own`.
pub record Place : Type 0 where
  pub parts : List Part
  pub after : ℕ
  pub own : ℕ

abbrev pub slot : List Part → ℕ → ℕ → Place
slot parts after own = record { parts = parts; after = after; own = own }

-- attributes and groups of them, and at the end a wildcard
abbrev pub attribute_slots : List Place
attribute_slots = slot (part.Attribute ∷ part.AttributeGroup ∷ []) 3 3 ∷ slot (part.AnyAttribute ∷ []) 3 4 ∷ []

-- one group of elements first
abbrev pub content_slots : List Place
content_slots = slot (part.Group ∷ part.All ∷ part.Choice ∷ part.Sequence ∷ []) 0 2 ∷ attribute_slots

abbrev pub particle_slots : List Place
particle_slots = slot (part.Element ∷ part.Group ∷ part.Choice ∷ part.Sequence ∷ part.Any ∷ []) 1 1 ∷ []

abbrev pub facet_parts : List Part
facet_parts = part.Enumeration ∷ part.Pattern ∷ part.MinInclusive ∷ part.MinExclusive ∷ part.MaxInclusive ∷ part.MaxExclusive ∷ part.PlainFacet ∷ []

abbrev pub component_parts : List Part
component_parts = part.SimpleType ∷ part.ComplexType ∷ part.Group ∷ part.AttributeGroup ∷ part.Element ∷ part.Attribute ∷ part.Notation ∷ []

-- one of these, and nothing else
abbrev pub one_of : List Part → List Place
one_of parts = slot parts 0 1 ∷ []

abbrev pub derivations : List Place
derivations = one_of (part.Restriction ∷ part.Extension ∷ [])

-- within a `restriction`, by what holds it
abbrev pub restriction_slots : Part → List Place
restriction_slots part.SimpleType = slot (part.SimpleType ∷ []) 0 1 ∷ slot facet_parts 2 2 ∷ []
restriction_slots part.SimpleContent = slot (part.SimpleType ∷ []) 0 1 ∷ slot facet_parts 2 2 ∷ attribute_slots
restriction_slots part.ComplexContent = content_slots
restriction_slots p = []

abbrev pub extension_slots : Part → List Place
extension_slots part.SimpleContent = attribute_slots
extension_slots part.ComplexContent = content_slots
extension_slots p = []

-- a `group` that is declared holds one group of elements, and one that is named has nothing within
abbrev pub group_slots : Part → List Place
group_slots part.Schema = one_of (part.All ∷ part.Choice ∷ part.Sequence ∷ [])
group_slots part.Redefine = one_of (part.All ∷ part.Choice ∷ part.Sequence ∷ [])
group_slots p = []

-- an `attributeGroup` that is declared holds attributes, and one that is named has nothing within
abbrev pub attribute_group_slots : Part → List Place
attribute_group_slots part.Schema = attribute_slots
attribute_group_slots part.Redefine = attribute_slots
attribute_group_slots p = []

-- within an element that the other one holds
abbrev pub slots : Part → Part → List Place
slots outer part.Schema = slot (part.Include ∷ part.Import ∷ part.Redefine ∷ []) 1 1 ∷ slot component_parts 2 2 ∷ []
slots outer part.Redefine = slot (part.SimpleType ∷ part.ComplexType ∷ part.Group ∷ part.AttributeGroup ∷ []) 1 1 ∷ []
slots outer part.Element = slot (part.SimpleType ∷ part.ComplexType ∷ []) 0 1 ∷ slot (part.Identity ∷ []) 2 2 ∷ []
slots outer part.Attribute = one_of (part.SimpleType ∷ [])
slots outer part.ComplexType = slot (part.SimpleContent ∷ part.ComplexContent ∷ []) 0 5 ∷ content_slots
slots outer part.SimpleContent = derivations
slots outer part.ComplexContent = derivations
slots outer part.Restriction = restriction_slots outer
slots outer part.Extension = extension_slots outer
slots outer part.SimpleType = one_of (part.Restriction ∷ part.List ∷ part.Union ∷ [])
slots outer part.List = one_of (part.SimpleType ∷ [])
slots outer part.Union = slot (part.SimpleType ∷ []) 1 1 ∷ []
slots outer part.Group = group_slots outer
slots outer part.AttributeGroup = attribute_group_slots outer
slots outer part.Sequence = particle_slots
slots outer part.Choice = particle_slots
slots outer part.All = slot (part.Element ∷ []) 1 1 ∷ []
slots outer part.Identity = slot (part.Selector ∷ []) 0 1 ∷ slot (part.Field ∷ []) 2 2 ∷ []
slots outer p = []

abbrev pub slot_of : List Place → Part → Option Place
slot_of ss p = find (λ s. is_among s.parts p) ss

-- the slot in which one element may hold another, in whatever order
abbrev pub slot_in : List Node → ℕ → ℕ → Option Place
slot_in ns p i = slot_of (slots (holder ns p) (part_at ns p)) (part_at ns i)

-- the slot to which an element brings what holds it; an annotation has none and brings it nowhere
abbrev pub own_of : Option Place → ℕ
own_of None = 0
own_of (Some s) = s.own

abbrev pub own_in : List Node → ℕ → ℕ → ℕ
own_in ns p i = own_of (slot_in ns p i)

abbrev pub later : ℕ → ℕ → ℕ
later a b = if nat_lt a b then b else a

-- the slot to which all that an element holds before a place has come
abbrev pub come_to : List Node → ℕ → ℕ → ℕ
come_to ns zero p = 0
come_to ns (suc i) p = if holds ns p i then later (come_to ns i p) (own_in ns p i) else come_to ns i p

abbrev pub is_out_of : ℕ → Option Place → Bool
is_out_of before None = true
is_out_of before (Some s) = nat_lt s.after before

-- ---- the conditions, of an element that another holds
-- it stands where it may not
abbrev pub is_misplaced : List Node → ℕ → ℕ → Bool
is_misplaced ns p i = is_out_of (come_to ns i p) (slot_in ns p i)

-- within what refers to a component nothing stands, and within what names its type no type
abbrev pub is_told_twice : List Node → ℕ → ℕ → Bool
is_told_twice ns p i =
    (is_among_at ns (part.Element ∷ part.Attribute ∷ part.Group ∷ part.AttributeGroup ∷ []) p && has (text_at ns attribute.Ref p))
    || (is_among_at ns (part.Element ∷ part.Attribute ∷ []) p && is_among_at ns (part.SimpleType ∷ part.ComplexType ∷ []) i && has (text_at ns attribute.Type p))
    || (is_at ns part.Restriction p && is_part part.SimpleType (holder ns p) && is_at ns part.SimpleType i && has (text_at ns attribute.Base p))
    || (is_at ns part.List p && has (text_at ns attribute.ItemType p))

abbrev pub is_unknown_in : List Node → ℕ → Option ℕ → Bool
is_unknown_in ns i None = false
is_unknown_in ns i (Some p) = is_misplaced ns p i || is_told_twice ns p i

-- an element that no annotation holds, and that is none, is unknown where it stands
abbrev pub is_unknown : List Node → ℕ → Bool
is_unknown ns i = is_unknown_in ns i (parent_at ns i)
