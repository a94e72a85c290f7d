-- What a schema document names (XML Schema 1.0 Part 1, sections 3.15.3 and 5.3): its types and other components.
use Rattle.std.specs.Prelude.{ℕ, ◌==◌, Bool, false, ◌&&◌, not, Option, Some, None, List, [], ◌∷◌, if◌then◌else◌}
use Rattle.std.specs.List.{find}
use Rattle.std.specs.Str.{bytes_eq}
use Rattle.exi_names.specs.declared.names.QName.{QName}
use Rattle.xsd_builtins.specs.BuiltIns.{any_type, built_in}
use Rattle.xsd_tree.specs.Trees.{xsd}
use Rattle.xsd_tree.specs.declared.node.Node.{Node}
use Rattle.xsd_nodes.specs.Nodes.{child, child_of, holder, is_among_at, is_at, is_global, places, text_at}
use Rattle.xsd_nodes.specs.PartNames.{is_part}
use Rattle.xsd_nodes.specs.declared.attribute_name.AttributeName.TheVariants as attribute
use Rattle.xsd_nodes.specs.declared.part.Part.{Part}
use Rattle.xsd_nodes.specs.declared.part.Part.TheVariants as part
use Rattle.xsd_names.specs.Names.{named, own_name, same_name}
use Rattle.xsd_components.specs.declared.type_at.TypeAt.{TypeAt}
use Rattle.xsd_components.specs.declared.type_at.TypeAt.TheVariants as type_at

-- ---- components
-- the kinds of components, by the elements that declare them; a kind has names of its own
abbrev pub elements : List Part
elements = part.Element ∷ []

abbrev pub attributes : List Part
attributes = part.Attribute ∷ []

abbrev pub type_parts : List Part
type_parts = part.SimpleType ∷ part.ComplexType ∷ []

abbrev pub groups : List Part
groups = part.Group ∷ []

abbrev pub attribute_groups : List Part
attribute_groups = part.AttributeGroup ∷ []

abbrev pub is_name : QName → Option QName → Bool
is_name name None = false
is_name name (Some other) = same_name name other

abbrev pub declares : List Node → List Part → QName → ℕ → Bool
declares ns kind name i = is_global ns i && is_among_at ns kind i && is_name name (own_name ns i)

-- the first of a kind and name
abbrev pub component : List Node → List Part → QName → Option ℕ
component ns kind name = find (declares ns kind name) (places ns)

abbrev pub component_of : List Node → List Part → Option QName → Option ℕ
component_of ns kind None = None
component_of ns kind (Some name) = component ns kind name

-- the one that a text in an element names
abbrev pub named_component : List Node → List Part → ℕ → List ℕ → Option ℕ
named_component ns kind i text = component_of ns kind (named ns i text)

-- the one that an attribute names; none where the attribute does not stand
abbrev pub text_names : List Node → List Part → ℕ → Option (List ℕ) → Option ℕ
text_names ns kind i None = None
text_names ns kind i (Some text) = named_component ns kind i text

-- ---- types
-- a type is a built-in one by its place, or one of the document by its element. The element is `simpleType` or
-- `complexType`, or the `restriction` of a `simpleContent`, which restricts the values of its base by a type of its own.
abbrev pub at_node : Option ℕ → Option TypeAt
at_node None = None
at_node (Some i) = Some (type_at.Node i)

abbrev pub or_declared : Option ℕ → Option ℕ → Option TypeAt
or_declared (Some place) declared = Some (type_at.Built place)
or_declared None declared = at_node declared

-- the built-in type of a name, or else the first that is declared
abbrev pub built_in_of : QName → Option ℕ
built_in_of name = if bytes_eq name.uri xsd then built_in name.local else None

abbrev pub type_of_name : List Node → Option QName → Option TypeAt
type_of_name ns None = None
type_of_name ns (Some name) = or_declared (built_in_of name) (component ns type_parts name)

abbrev pub named_type : List Node → ℕ → List ℕ → Option TypeAt
named_type ns i text = type_of_name ns (named ns i text)

abbrev pub text_names_type : List Node → ℕ → Option (List ℕ) → Option TypeAt
text_names_type ns i None = None
text_names_type ns i (Some text) = named_type ns i text

abbrev pub is_simple : List Node → TypeAt → Bool
is_simple ns (type_at.Built place) = not (place == any_type)
is_simple ns (type_at.Node i) = not (is_at ns part.ComplexType i)

-- where a simple or a complex type has to stand, another does not count
abbrev pub simple_only : List Node → Option TypeAt → Option TypeAt
simple_only ns None = None
simple_only ns (Some t) = if is_simple ns t then Some t else None

abbrev pub complex_only : List Node → Option TypeAt → Option TypeAt
complex_only ns None = None
complex_only ns (Some t) = if is_simple ns t then None else Some t

-- ---- how a type is derived
-- the `restriction`, `extension`, `list` or `union` of a type's element
abbrev pub derivation : List Node → ℕ → Option ℕ
derivation ns i =
    if is_at ns part.SimpleType i then child ns (part.Restriction ∷ part.List ∷ part.Union ∷ []) i
    else if is_at ns part.ComplexType i then child_of ns (part.Restriction ∷ part.Extension ∷ []) (child ns (part.SimpleContent ∷ part.ComplexContent ∷ []) i)
    else if is_at ns part.Restriction i then Some i
    else None

-- the type that stands within
abbrev pub inline : List Node → ℕ → Option TypeAt
inline ns d = at_node (child ns (part.SimpleType ∷ []) d)

abbrev pub or_inline : List Node → ℕ → Option (List ℕ) → Option TypeAt
or_inline ns d None = inline ns d
or_inline ns d (Some text) = named_type ns d text

-- the base of a restriction or extension: the one that it names; in a simple type else the one that stands within
abbrev pub base : List Node → ℕ → Option TypeAt
base ns d =
    if is_part part.SimpleType (holder ns d) then simple_only ns (or_inline ns d (text_at ns attribute.Base d))
    else if is_part part.ComplexContent (holder ns d) then complex_only ns (text_names_type ns d (text_at ns attribute.Base d))
    else text_names_type ns d (text_at ns attribute.Base d)

-- the type of a list's items
abbrev pub item : List Node → ℕ → Option TypeAt
item ns d = simple_only ns (or_inline ns d (text_at ns attribute.ItemType d))
