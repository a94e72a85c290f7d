-- What is wrong with an element, as far as the element and what it names tell (XML Schema 1.0 Part 1, sections 3.2 to 3.8
-- and 3.14; Part 2, sections 4.1 to 4.3), each condition asked of one element.
use Rattle.std.specs.Prelude.{ℕ, ◌==◌, Bool, true, false, ◌&&◌, not, Option, Some, None, List, [], ◌∷◌, if◌then◌else◌}
use Rattle.exi_lexical.specs.Spaces.{trimmed}
use Rattle.exi_names.specs.declared.names.QName.{QName}
use Rattle.xsd_tree.specs.declared.node.Node.{Node}
use Rattle.xsd_nodes.specs.Nodes.{child, has, holder, is_among_at, is_at, is_global, part_at, text_at}
use Rattle.xsd_nodes.specs.PartNames.{is_among, is_part}
use Rattle.xsd_nodes.specs.declared.attribute_name.AttributeName.{AttributeName}
use Rattle.xsd_nodes.specs.declared.attribute_name.AttributeName.TheVariants as attribute
use Rattle.xsd_nodes.specs.declared.part.Part.{Part}
use Rattle.xsd_nodes.specs.declared.part.Part.TheVariants as part
use Rattle.xsd_names.specs.Names.{is_ncname, own_name}
use Rattle.xsd_components.specs.References.{attribute_groups, attributes, base, component, elements, groups, item, type_parts}
use Rattle.xsd_components.specs.declared.type_at.TypeAt.{TypeAt}

-- ---- names of components
abbrev pub named_parts : List Part
named_parts = part.Element ∷ part.Attribute ∷ part.ComplexType ∷ part.SimpleType ∷ part.Group ∷ part.AttributeGroup ∷ []

-- one directly within the schema has a name
abbrev pub lacks_name : List Node → ℕ → Bool
lacks_name ns i = is_among_at ns named_parts i && is_global ns i && not (has (text_at ns attribute.Name i))

-- a name is an NCName
abbrev pub is_bad_name : Option (List ℕ) → Bool
is_bad_name None = false
is_bad_name (Some name) = not (is_ncname (trimmed name))

abbrev pub has_bad_name : List Node → ℕ → Bool
has_bad_name ns i = is_among_at ns named_parts i && is_bad_name (text_at ns attribute.Name i)

-- ---- a second component of one kind and name
abbrev pub kind_of : Part → List Part
kind_of p =
    if is_part part.Element p then elements
    else if is_part part.Attribute p then attributes
    else if is_among type_parts p then type_parts
    else if is_part part.Group p then groups
    else if is_part part.AttributeGroup p then attribute_groups
    else []

abbrev pub is_other_place : ℕ → Option ℕ → Bool
is_other_place i None = false
is_other_place i (Some j) = not (i == j)

abbrev pub first_is_other : List Node → List Part → ℕ → Option QName → Bool
first_is_other ns kind i None = false
first_is_other ns kind i (Some name) = is_other_place i (component ns kind name)

abbrev pub is_second : List Node → ℕ → Bool
is_second ns i = is_global ns i && first_is_other ns (kind_of (part_at ns i)) i (own_name ns i)

-- ---- what is missing
-- neither the attribute nor a type within
abbrev pub lacks_type : List Node → Part → AttributeName → ℕ → Bool
lacks_type ns p name i = is_at ns p i && not (has (text_at ns name i)) && not (has (child ns (part.SimpleType ∷ []) i))

-- the facets that have an effect
abbrev pub bounds_and_values : List Part
bounds_and_values = part.Enumeration ∷ part.MinInclusive ∷ part.MinExclusive ∷ part.MaxInclusive ∷ part.MaxExclusive ∷ []

abbrev pub facets : List Part
facets = part.Pattern ∷ bounds_and_values

abbrev pub lacks_value : List Node → ℕ → Bool
lacks_value ns i = is_among_at ns facets i && not (has (text_at ns attribute.Value i))

-- ---- what is not there
abbrev pub is_missing : Option TypeAt → Bool
is_missing None = true
is_missing (Some t) = false

-- where the attribute stands
abbrev pub if_told : Option (List ℕ) → Bool → Bool
if_told None missing = false
if_told (Some text) missing = missing

abbrev pub lacks_item : List Node → ℕ → Bool
lacks_item ns i = is_at ns part.List i && if_told (text_at ns attribute.ItemType i) (is_missing (item ns i))

-- ---- the restriction of a simple type
abbrev pub is_simple_restriction : List Node → ℕ → Bool
is_simple_restriction ns i = is_at ns part.Restriction i && is_part part.SimpleType (holder ns i)

abbrev pub restricts_nothing : List Node → ℕ → Bool
restricts_nothing ns i = is_part part.SimpleType (holder ns i) && lacks_type ns part.Restriction attribute.Base i

abbrev pub lacks_simple_base : List Node → ℕ → Bool
lacks_simple_base ns i = is_simple_restriction ns i && if_told (text_at ns attribute.Base i) (is_missing (base ns i))
