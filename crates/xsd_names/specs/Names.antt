-- Names in a schema document, as `xs:int`: what they stand for by the namespaces in scope (Namespaces in XML 1.0,
-- sections 4 and 6).
use Rattle.std.specs.Prelude.{ℕ, ◌==◌, Bool, false, ◌||◌, ◌&&◌, codes, Option, Some, None, List, [], ◌∷◌, slice_get, if◌then◌else◌}
use Rattle.std.specs.List.{list_all}
use Rattle.std.specs.Str.{bytes_eq}
use Rattle.exi_digits.specs.Splits.{before, behind, is_mark}
use Rattle.exi_lexical.specs.Spaces.{trimmed}
use Rattle.exi_names.specs.Characters.{between}
use Rattle.exi_names.specs.declared.names.QName.{QName}
use Rattle.xsd_tree.specs.declared.node.Node.{Node}
use Rattle.xsd_nodes.specs.Nodes.{outwards, target, text_at}
use Rattle.xsd_nodes.specs.declared.attribute_name.AttributeName.TheVariants as attribute

-- ---- names without a colon (Namespaces in XML 1.0, production 4; XML 1.0, fifth edition, productions 4 and 4a)
unfoldable pub is_name_start : ℕ → Bool
is_name_start c =
    between 65 90 c || c == 95 || between 97 122 c
    || between 0xC0 0xD6 c || between 0xD8 0xF6 c || between 0xF8 0x2FF c || between 0x370 0x37D c
    || between 0x37F 0x1FFF c || between 0x200C 0x200D c || between 0x2070 0x218F c || between 0x2C00 0x2FEF c
    || between 0x3001 0xD7FF c || between 0xF900 0xFDCF c || between 0xFDF0 0xFFFD c || between 0x1_0000 0xE_FFFF c

unfoldable pub is_name_char : ℕ → Bool
is_name_char c =
    is_name_start c || c == 45 || c == 46 || between 48 57 c || c == 0xB7 || between 0x300 0x36F c || between 0x203F 0x2040 c

abbrev pub is_ncname : List ℕ → Bool
is_ncname [] = false
is_ncname (c ∷ cs) = is_name_start c && list_all is_name_char cs

-- ---- namespaces
-- the URI of a prefix in one element
abbrev pub uri_in : List ℕ → List (List ℕ × List ℕ) → Option (List ℕ)
uri_in prefix [] = None
uri_in prefix (declared ∷ more) = if bytes_eq declared.0 prefix then Some declared.1 else uri_in prefix more

abbrev pub scope_in : List ℕ → Option Node → Option (List ℕ)
scope_in prefix None = None
scope_in prefix (Some n) = uri_in prefix n.scope

-- in the first of these elements that declares it
abbrev pub unless_told : Option (List ℕ) → Option (List ℕ) → Option (List ℕ)
unless_told None outer = outer
unless_told (Some uri) outer = Some uri

abbrev pub uri_along : List ℕ → List Node → List ℕ → Option (List ℕ)
uri_along prefix ns [] = None
uri_along prefix ns (i ∷ is) = unless_told (scope_in prefix (slice_get ns i)) (uri_along prefix ns is)

-- no prefix at all stands for no namespace where none declares it
abbrev pub or_no_namespace : List ℕ → Option (List ℕ) → Option (List ℕ)
or_no_namespace prefix None = if bytes_eq prefix [] then Some [] else None
or_no_namespace prefix (Some uri) = Some uri

-- `xml` needs no declaration
abbrev pub xml : List ℕ
xml = codes "xml"

abbrev pub xml_namespace : List ℕ
xml_namespace = codes "http://www.w3.org/XML/1998/namespace"

abbrev pub uri_of : List Node → ℕ → List ℕ → Option (List ℕ)
uri_of ns i prefix = if bytes_eq prefix xml then Some xml_namespace else or_no_namespace prefix (uri_along prefix ns (outwards ns i))

-- ---- a name in an element
abbrev pub in_namespace : List ℕ → Option (List ℕ) → Option QName
in_namespace local None = None
in_namespace local (Some uri) = Some (record { uri = uri; local = local; prefix = None })

abbrev pub of_parts : List Node → ℕ → List ℕ → Option (List ℕ) → Option QName
of_parts ns i whole None = if is_ncname whole then in_namespace whole (uri_of ns i []) else None
of_parts ns i whole (Some local) = if is_ncname (before (is_mark 58) whole) && is_ncname local then in_namespace local (uri_of ns i (before (is_mark 58) whole)) else None

abbrev pub name_of : List Node → ℕ → List ℕ → Option QName
name_of ns i whole = of_parts ns i whole (behind (is_mark 58) whole)

-- what a text stands for, white space at its ends dropped
abbrev pub named : List Node → ℕ → List ℕ → Option QName
named ns i text = name_of ns i (trimmed text)

abbrev pub same_name : QName → QName → Bool
same_name a b = bytes_eq a.uri b.uri && bytes_eq a.local b.local

-- ---- the name of a component
-- the name that a global component gets, of the target namespace of its schema
abbrev pub in_target : List ℕ → Option (List ℕ) → Option QName
in_target uri None = None
in_target uri (Some name) = Some (record { uri = uri; local = trimmed name; prefix = None })

abbrev pub own_name : List Node → ℕ → Option QName
own_name ns i = in_target (target ns i) (text_at ns attribute.Name i)
