-- What is wrong with a part of a simple type, each condition asked of one element (XML Schema 1.0 Part 2, sections 4.1 to
-- 4.3). One that needs what a type is derived from is asked only where the paths from there are whole.
use Rattle.std.specs.Prelude.{ℕ, Bool, true, false, ◌&&◌, not, Option, Some, None, List, if◌then◌else◌}
use Rattle.std.specs.List.{list_any}
use Rattle.std.specs.Option.{is_some}
use Rattle.exi_pattern.specs.Patterns.{chars_of}
use Rattle.exi_pattern.specs.declared.charset.CharSet.{CharSet}
use Rattle.exi_pattern.specs.declared.charset.CharSet.TheVariants as charset
use Rattle.xsd_tree.specs.declared.node.Node.{Node}
use Rattle.xsd_nodes.specs.declared.attribute_name.AttributeName.TheVariants as attribute
use Rattle.xsd_nodes.specs.declared.part.Part.TheVariants as part
use Rattle.xsd_nodes.specs.Nodes.{is_among_at, is_at, parent_at, text_at}
use Rattle.xsd_conditions.specs.Conditions.{bounds_and_values, is_missing}
use Rattle.xsd_paths.specs.Paths.{is_whole}
use Rattle.xsd_derivations.specs.Derivations.{members}
use Rattle.xsd_components.specs.declared.type_at.TypeAt.{TypeAt}
use Rattle.xsd_simple.specs.Simple.{Simple, facet_value, form_of, is_not_enumerable, simple_of}
use Rattle.xsd_values.specs.Restricted.{restricted_type}

-- ---- what a facet restricts
abbrev pub simple_if : List Node → Option TypeAt → Option Simple
simple_if ns None = None
simple_if ns (Some t) = Some (simple_of ns t)

-- the type that a restriction restricts
abbrev pub type_restricted : List Node → Option ℕ → Option TypeAt
type_restricted ns None = None
type_restricted ns (Some d) = if is_at ns part.Restriction d && is_whole ns d then restricted_type ns d else None

-- the type on which a facet stands
abbrev pub facet_type : List Node → ℕ → Option TypeAt
facet_type ns f = type_restricted ns (parent_at ns f)

abbrev pub facet_base : List Node → ℕ → Option Simple
facet_base ns f = simple_if ns (facet_type ns f)

abbrev pub holds_of : (Simple → Bool) → Option Simple → Bool
holds_of test None = false
holds_of test (Some s) = test s

-- ---- what is not read
abbrev pub enumerates_no_value : List Node → ℕ → Bool
enumerates_no_value ns i = is_at ns part.Enumeration i && holds_of is_not_enumerable (facet_base ns i)

-- patterns at two steps of one derivation
abbrev pub is_patterned : Simple → Bool
is_patterned s = s.patterned

abbrev pub is_second_pattern : List Node → ℕ → Bool
is_second_pattern ns i = is_at ns part.Pattern i && holds_of is_patterned (facet_base ns i)

-- ---- what is missing or has no value
-- a value that the base does not have
abbrev pub has_no_value : List Node → ℕ → Simple → Bool
has_no_value ns i s = not (is_some (facet_value ns (form_of s) i))

abbrev pub is_no_value : List Node → ℕ → Bool
is_no_value ns i = is_among_at ns bounds_and_values i && holds_of (has_no_value ns i) (facet_base ns i)

abbrev pub lacks_member : List Node → ℕ → Bool
lacks_member ns i = is_at ns part.Union i && list_any is_missing (members ns i)

-- ---- a pattern that is refused
abbrev pub is_refused : CharSet → Bool
is_refused (charset.Refused at) = true
is_refused (charset.Set letters) = false
is_refused charset.Any = false

abbrev pub refuses : Option (List ℕ) → Bool
refuses None = false
refuses (Some pattern) = is_refused (chars_of pattern)

abbrev pub pattern_is_refused : List Node → ℕ → Bool
pattern_is_refused ns i = is_at ns part.Pattern i && refuses (text_at ns attribute.Value i)
