-- Wildcards (XML Schema 1.0 Part 1, section 3.10): which namespaces they allow.
use Rattle.std.specs.Prelude.{ℕ, Bool, true, false, ◌||◌, ◌&&◌, not, codes, List, [], ◌∷◌, ◌++◌, filter, if◌then◌else◌}
use Rattle.std.specs.List.{list_any}
use Rattle.std.specs.Str.{bytes_eq}
use Rattle.exi_lexical.specs.Spaces.{words}
use Rattle.xsd_tree.specs.declared.node.Node.{Node}
use Rattle.xsd_nodes.specs.declared.attribute_name.AttributeName.TheVariants as attribute
use Rattle.xsd_nodes.specs.declared.part.Part.TheVariants as part
use Rattle.xsd_nodes.specs.Nodes.{is_among_at, or_empty, target, text_at}
use Rattle.xsd_wildcards.specs.declared.allowed.Allowed.{Allowed}
use Rattle.xsd_wildcards.specs.declared.allowed.Allowed.TheVariants as allows

abbrev pub is_in : List (List ℕ) → List ℕ → Bool
is_in uris uri = list_any (bytes_eq uri) uris

-- ---- what a wildcard says
-- what a word of `namespace` lists; the empty text stands for no namespace
abbrev pub listed : List ℕ → List ℕ → List ℕ
listed own word = if bytes_eq word (codes "##targetNamespace") then own else if bytes_eq word (codes "##local") then [] else word

-- these and then the others, but for those that are there already
abbrev pub listed_onto : List ℕ → List (List ℕ) → List (List ℕ) → List (List ℕ)
listed_onto own uris [] = uris
listed_onto own uris (word ∷ ws) = if is_in uris (listed own word) then listed_onto own uris ws else listed_onto own (uris ++ listed own word ∷ []) ws

-- no word at all, or `##any` alone
abbrev pub is_any : List (List ℕ) → Bool
is_any [] = true
is_any (word ∷ []) = bytes_eq word (codes "##any")
is_any ws = false

-- `##other` alone
abbrev pub is_other : List (List ℕ) → Bool
is_other (word ∷ []) = bytes_eq word (codes "##other")
is_other ws = false

-- by its words, in a schema of this target namespace
abbrev pub allowed_by : List ℕ → List (List ℕ) → Allowed
allowed_by own ws = if is_any ws then allows.Every else if is_other ws then allows.OtherThan own else allows.These (listed_onto own [] ws)

abbrev pub namespace_words : List Node → ℕ → List (List ℕ)
namespace_words ns i = words (or_empty (text_at ns attribute.Namespace i))

abbrev pub allowed_at : List Node → ℕ → Allowed
allowed_at ns i = allowed_by (target ns i) (namespace_words ns i)

-- ---- what two allow together
abbrev pub is_kept : List ℕ → List ℕ → Bool
is_kept own uri = not (bytes_eq uri own || bytes_eq uri [])

abbrev pub both : Allowed → Allowed → Allowed
both allows.Every b = b
both (allows.OtherThan own) allows.Every = allows.OtherThan own
both (allows.OtherThan own) (allows.OtherThan uri) = if bytes_eq own [] then allows.OtherThan uri else allows.OtherThan own
both (allows.OtherThan own) (allows.These uris) = allows.These (filter (is_kept own) uris)
both (allows.These uris) allows.Every = allows.These uris
both (allows.These uris) (allows.OtherThan own) = allows.These (filter (is_kept own) uris)
both (allows.These uris) (allows.These others) = allows.These (filter (is_in others) uris)

-- ---- the condition: a wildcard lists a namespace other than the target
abbrev pub is_other_uri : List ℕ → List ℕ → Bool
is_other_uri own word = not (bytes_eq word (codes "##targetNamespace") || bytes_eq word (codes "##local") || bytes_eq word own)

abbrev pub lists_other : List ℕ → List (List ℕ) → Bool
lists_other own ws = not (is_any ws) && not (is_other ws) && list_any (is_other_uri own) ws

abbrev pub is_foreign_wild : List Node → ℕ → Bool
is_foreign_wild ns i = is_among_at ns (part.Any ∷ part.AnyAttribute ∷ []) i && lists_other (target ns i) (namespace_words ns i)
