-- What a derivation, a group of attributes and an element name (XML Schema 1.0 Part 1, sections 3.3.2, 3.6.2 and 3.14.2).
use Rattle.std.specs.Prelude.{ℕ, Option, Some, None, List, [], ◌∷◌, ◌++◌, map, if◌then◌else◌}
use Rattle.exi_lexical.specs.Spaces.{words}
use Rattle.xsd_tree.specs.declared.node.Node.{Node}
use Rattle.xsd_nodes.specs.Nodes.{children, holder, is_at, or_empty, text_at}
use Rattle.xsd_nodes.specs.PartNames.{is_part}
use Rattle.xsd_nodes.specs.declared.attribute_name.AttributeName.TheVariants as attribute
use Rattle.xsd_nodes.specs.declared.part.Part.TheVariants as part
use Rattle.xsd_components.specs.declared.type_at.TypeAt.{TypeAt}
use Rattle.xsd_components.specs.declared.type_at.TypeAt.TheVariants as type_at
use Rattle.xsd_components.specs.References.{attribute_groups, base, elements, inline, item, named_component, named_type, simple_only, text_names}

-- ---- what a type is derived from
-- the types of a union: those that it names, and then those that stand within
abbrev pub member_named : List Node → ℕ → List ℕ → Option TypeAt
member_named ns d text = simple_only ns (named_type ns d text)

abbrev pub named_members : List Node → ℕ → List (Option TypeAt)
named_members ns d = map (member_named ns d) (words (or_empty (text_at ns attribute.MemberTypes d)))

abbrev pub member_held : ℕ → Option TypeAt
member_held i = Some (type_at.Node i)

abbrev pub members : List Node → ℕ → List (Option TypeAt)
members ns d = named_members ns d ++ map member_held (children ns (part.SimpleType ∷ []) d)

-- the types that a derivation names or holds, each with none where it is not there
abbrev pub held_type : Option TypeAt → List (Option TypeAt)
held_type None = []
held_type (Some t) = Some t ∷ []

abbrev pub inline_in : List Node → ℕ → List (Option TypeAt)
inline_in ns d = if is_part part.SimpleContent (holder ns d) then held_type (inline ns d) else []

abbrev pub derived_in : List Node → ℕ → List (Option TypeAt)
derived_in ns d =
    if is_at ns part.Restriction d then base ns d ∷ inline_in ns d
    else if is_at ns part.Extension d then base ns d ∷ []
    else if is_at ns part.List d then item ns d ∷ []
    else if is_at ns part.Union d then members ns d
    else []

abbrev pub derived_from : List Node → Option ℕ → List (Option TypeAt)
derived_from ns None = []
derived_from ns (Some d) = derived_in ns d

-- ---- groups
-- the groups of attributes that an element names
abbrev pub attribute_group_named : List Node → ℕ → Option ℕ
attribute_group_named ns i = text_names ns attribute_groups i (text_at ns attribute.Ref i)

abbrev pub attribute_groups_named : List Node → ℕ → List (Option ℕ)
attribute_groups_named ns i = map (attribute_group_named ns) (children ns (part.AttributeGroup ∷ []) i)

-- the head of the substitution group of an element, where it names one
abbrev pub head_in : List Node → ℕ → Option (List ℕ) → List (Option ℕ)
head_in ns i None = []
head_in ns i (Some text) = named_component ns elements i text ∷ []

abbrev pub head_named : List Node → ℕ → List (Option ℕ)
head_named ns i = head_in ns i (text_at ns attribute.SubstitutionGroup i)
