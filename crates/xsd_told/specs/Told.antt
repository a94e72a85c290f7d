-- What is wrong with an element of a schema document, as far as it can be told from its own attributes and from what they
-- name, each condition asked of one element (XML Schema 1.0 Part 1, sections 3.2 to 3.9).
use Rattle.std.specs.Prelude.{ℕ, Bool, true, false, ◌&&◌, not, nat_lt, codes, Option, Some, None, List, [], ◌∷◌, if◌then◌else◌}
use Rattle.std.specs.Str.{bytes_eq}
use Rattle.exi_lexical.specs.Spaces.{trimmed}
use Rattle.xsd_tree.specs.declared.node.Node.{Node}
use Rattle.xsd_nodes.specs.declared.attribute_name.AttributeName.{AttributeName}
use Rattle.xsd_nodes.specs.declared.attribute_name.AttributeName.TheVariants as attribute
use Rattle.xsd_nodes.specs.declared.part.Part.{Part}
use Rattle.xsd_nodes.specs.declared.part.Part.TheVariants as part
use Rattle.xsd_nodes.specs.Nodes.{has, holder, is_among_at, is_at, is_global, text_at}
use Rattle.xsd_nodes.specs.PartNames.{is_part}
use Rattle.xsd_components.specs.References.{attribute_groups, attributes, elements, groups, simple_only, text_names, text_names_type}
use Rattle.xsd_conditions.specs.Conditions.{if_told, is_missing}
use Rattle.xsd_contents.specs.Contents.{number_in}
use Rattle.xsd_places.specs.Kinds.{is_particle}

-- ---- what is not read
abbrev pub unread : Bool → List Part
unread false = part.All ∷ part.Redefine ∷ part.Notation ∷ part.Include ∷ part.Import ∷ []
unread true = part.All ∷ part.Redefine ∷ part.Notation ∷ []

abbrev pub is_unread : Bool → List Node → ℕ → Bool
is_unread joined ns i = is_among_at ns (unread joined) i

-- ---- what is missing or has no value
-- an element or attribute within a type has a name or refers to one
abbrev pub is_nameless : List Node → ℕ → Bool
is_nameless ns i = is_among_at ns (part.Element ∷ part.Attribute ∷ []) i && not (has (text_at ns attribute.Name i)) && not (has (text_at ns attribute.Ref i))

-- a group that is not declared here refers to one
abbrev pub refers_to_none : List Node → ℕ → Bool
refers_to_none ns i = is_among_at ns (part.Group ∷ part.AttributeGroup ∷ []) i && not (is_global ns i) && not (has (text_at ns attribute.Ref i))

abbrev pub is_named_and_refers : List Node → ℕ → Bool
is_named_and_refers ns i = is_among_at ns (part.Element ∷ part.Attribute ∷ part.Group ∷ part.AttributeGroup ∷ []) i && has (text_at ns attribute.Name i) && has (text_at ns attribute.Ref i)

-- what is derived from a base names it, but for simple types
abbrev pub lacks_base : List Node → ℕ → Bool
lacks_base ns i = is_among_at ns (part.Restriction ∷ part.Extension ∷ []) i && not (is_part part.SimpleType (holder ns i)) && not (has (text_at ns attribute.Base i))

-- ---- how often a particle stands
-- how often at most, where a number is told; nothing where the text is neither a number nor `unbounded`
abbrev pub bounded : Option ℕ → Option (Option ℕ)
bounded None = None
bounded (Some n) = Some (Some n)

abbrev pub most_in : Option (List ℕ) → Option (Option ℕ)
most_in None = Some (Some 1)
most_in (Some text) = if bytes_eq (trimmed text) (codes "unbounded") then Some None else bounded (number_in (Some text))

abbrev pub is_above : ℕ → Option ℕ → Bool
is_above least None = false
is_above least (Some most) = nat_lt most least

abbrev pub are_bad_bounds : Option ℕ → Option (Option ℕ) → Bool
are_bad_bounds None most = true
are_bad_bounds (Some least) None = true
are_bad_bounds (Some least) (Some most) = is_above least most

abbrev pub has_bad_bounds : List Node → ℕ → Bool
has_bad_bounds ns i = is_particle ns i && are_bad_bounds (number_in (text_at ns attribute.MinOccurs i)) (most_in (text_at ns attribute.MaxOccurs i))

-- ---- what is not there
-- a type of an element, and a simple type of an attribute
abbrev pub names_no_type_at_all : List Node → ℕ → Bool
names_no_type_at_all ns i = if_told (text_at ns attribute.Type i) (is_missing (text_names_type ns i (text_at ns attribute.Type i)))

abbrev pub names_no_simple_type : List Node → ℕ → Bool
names_no_simple_type ns i = if_told (text_at ns attribute.Type i) (is_missing (simple_only ns (text_names_type ns i (text_at ns attribute.Type i))))

abbrev pub names_no_type : List Node → ℕ → Bool
names_no_type ns i =
    if is_at ns part.Element i then names_no_type_at_all ns i
    else is_at ns part.Attribute i && names_no_simple_type ns i

-- a component of this kind
abbrev pub names_none : List Node → List Part → AttributeName → ℕ → Bool
names_none ns kind name i = if_told (text_at ns name i) (not (has (text_names ns kind i (text_at ns name i))))

abbrev pub refers_to_none_of : List Node → ℕ → Bool
refers_to_none_of ns i =
    if is_at ns part.Element i then names_none ns elements attribute.Ref i
    else if is_at ns part.Attribute i then names_none ns attributes attribute.Ref i
    else if is_at ns part.Group i then names_none ns groups attribute.Ref i
    else is_at ns part.AttributeGroup i && names_none ns attribute_groups attribute.Ref i

-- what refers stands within a type or a group
abbrev pub refers_to_missing : List Node → ℕ → Bool
refers_to_missing ns i = not (is_global ns i) && refers_to_none_of ns i

abbrev pub lacks_head : List Node → ℕ → Bool
lacks_head ns i = is_at ns part.Element i && is_global ns i && names_none ns elements attribute.SubstitutionGroup i
