-- What is wrong with an element of a schema document: each condition asked of one element, and the first that holds (XML
-- Schema 1.0 Part 1, sections 3.2 to 3.14).
use Rattle.std.specs.Prelude.{ℕ, Bool, ◌||◌, Option, None, List, if◌then◌else◌}
use Rattle.xsd_model.specs.declared.fault.SchemaKind.{SchemaKind}
use Rattle.xsd_model.specs.declared.fault.SchemaKind.TheVariants as kind
use Rattle.xsd_tree.specs.declared.node.Node.{Node}
use Rattle.xsd_nodes.specs.declared.attribute_name.AttributeName.TheVariants as attribute
use Rattle.xsd_nodes.specs.declared.part.Part.TheVariants as part
use Rattle.xsd_nodes.specs.Nodes.{is_skipped}
use Rattle.xsd_conditions.specs.Conditions.{has_bad_name, is_second, lacks_item, lacks_name, lacks_simple_base, lacks_type, lacks_value, restricts_nothing}
use Rattle.xsd_schema.specs.Facets.{enumerates_no_value, is_no_value, is_second_pattern, lacks_member, pattern_is_refused}
use Rattle.xsd_schema.specs.Shown.{is_circular, or_else}
use Rattle.xsd_schema.specs.Fitting.{lacks_fitting_base}
use Rattle.xsd_slots.specs.Slots.{is_unknown}
use Rattle.xsd_told.specs.Told.{has_bad_bounds, is_named_and_refers, is_nameless, is_unread, lacks_base, lacks_head, names_no_type, refers_to_missing, refers_to_none}
use Rattle.xsd_type_wildcards.specs.TypeWildcards.{is_second_wild}
use Rattle.xsd_wildcards.specs.Wildcards.{is_foreign_wild}

-- ---- the conditions, each in the words of its kind
-- a part that is not read, or wildcards that are not
unfoldable pub is_unread_or_wild : Bool → List Node → ℕ → Bool
is_unread_or_wild joined ns i = is_unread joined ns i || is_foreign_wild ns i || is_second_wild ns i

abbrev pub is_unsupported : Bool → List Node → ℕ → Bool
is_unsupported joined ns i = is_unread_or_wild joined ns i || enumerates_no_value ns i || is_second_pattern ns i

abbrev pub is_bad : List Node → ℕ → Bool
is_bad ns i =
    lacks_name ns i || has_bad_name ns i || is_nameless ns i || refers_to_none ns i || is_named_and_refers ns i
    || lacks_base ns i || restricts_nothing ns i || lacks_type ns part.List attribute.ItemType i
    || lacks_type ns part.Union attribute.MemberTypes i || has_bad_bounds ns i || lacks_value ns i || is_no_value ns i

abbrev pub is_unresolved : List Node → ℕ → Bool
is_unresolved ns i =
    names_no_type ns i || refers_to_missing ns i || lacks_head ns i || lacks_simple_base ns i || lacks_item ns i
    || lacks_member ns i || lacks_fitting_base ns i

-- the first that holds
abbrev pub kind_at : Bool → List Node → ℕ → Option SchemaKind
kind_at joined ns i =
    or_else (is_unknown ns i) kind.UnknownPart
    (or_else (is_unsupported joined ns i) kind.Unsupported
    (or_else (is_bad ns i) kind.BadPart
    (or_else (is_second ns i) kind.TwiceDeclared
    (or_else (is_unresolved ns i) kind.Unresolved
    (or_else (is_circular ns i) kind.Circular
    (or_else (pattern_is_refused ns i) kind.PatternRefused None))))))

unfoldable pub shows_at : Bool → List Node → ℕ → Option SchemaKind
shows_at joined ns i = if is_skipped ns i then None else kind_at joined ns i
