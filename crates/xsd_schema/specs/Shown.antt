-- What is wrong with an element of a schema document, as far as any kind of component asks it, and which fault is the first.
use Rattle.std.specs.Prelude.{ℕ, suc, Bool, true, false, ◌||◌, ◌&&◌, not, Option, Some, None, List, [], ◌∷◌, if◌then◌else◌}
use Rattle.xsd_model.specs.declared.fault.SchemaFault.{SchemaFault}
use Rattle.xsd_model.specs.declared.fault.SchemaKind.{SchemaKind}
use Rattle.xsd_model.specs.declared.fault.SchemaKind.TheVariants as kind
use Rattle.xsd_tree.specs.declared.node.Node.{Node}
use Rattle.xsd_nodes.specs.declared.attribute_name.AttributeName.TheVariants as attribute
use Rattle.xsd_nodes.specs.declared.part.Part.{Part}
use Rattle.xsd_nodes.specs.declared.part.Part.TheVariants as part
use Rattle.xsd_conditions.specs.Conditions.{has_bad_name, is_second, is_simple_restriction, lacks_item, lacks_name, lacks_simple_base, lacks_type, lacks_value, restricts_nothing}
use Rattle.xsd_schema.specs.Facets.{enumerates_no_value, is_no_value, is_second_pattern, lacks_member, pattern_is_refused}
use Rattle.xsd_nodes.specs.Nodes.{is_among_at, is_skipped}
use Rattle.xsd_circles.specs.Circles.{reaches_itself}
use Rattle.xsd_components.specs.References.{component, elements}

-- ---- a component that reaches itself
abbrev pub circular_parts : List Part
circular_parts = part.SimpleType ∷ part.ComplexType ∷ part.Group ∷ part.AttributeGroup ∷ part.Element ∷ []

abbrev pub is_circular : List Node → ℕ → Bool
is_circular ns i = is_among_at ns circular_parts i && reaches_itself ns i

-- ---- the first that holds
abbrev pub or_else : Bool → SchemaKind → Option SchemaKind → Option SchemaKind
or_else true k more = Some k
or_else false k more = more

-- ---- simple types
-- the elements that make up simple types
abbrev pub simple_parts : List Part
simple_parts = part.SimpleType ∷ part.List ∷ part.Union ∷ part.Pattern ∷ part.Enumeration ∷ part.MinInclusive ∷ part.MinExclusive ∷ part.MaxInclusive ∷ part.MaxExclusive ∷ []

abbrev pub is_of_simple_type : List Node → ℕ → Bool
is_of_simple_type ns i = is_among_at ns simple_parts i || is_simple_restriction ns i

-- what is wrong with one of them: the conditions, each in the words of its kind
abbrev pub is_simple_unsupported : List Node → ℕ → Bool
is_simple_unsupported ns i = enumerates_no_value ns i || is_second_pattern ns i

abbrev pub is_simple_bad : List Node → ℕ → Bool
is_simple_bad ns i =
    lacks_name ns i || has_bad_name ns i || restricts_nothing ns i || lacks_type ns part.List attribute.ItemType i
    || lacks_type ns part.Union attribute.MemberTypes i || lacks_value ns i || is_no_value ns i

abbrev pub is_simple_unresolved : List Node → ℕ → Bool
is_simple_unresolved ns i = lacks_simple_base ns i || lacks_item ns i || lacks_member ns i

-- the first that holds
abbrev pub simple_kind : List Node → ℕ → Option SchemaKind
simple_kind ns i =
    or_else (is_simple_unsupported ns i) kind.Unsupported
    (or_else (is_simple_bad ns i) kind.BadPart
    (or_else (is_second ns i) kind.TwiceDeclared
    (or_else (is_simple_unresolved ns i) kind.Unresolved
    (or_else (is_circular ns i) kind.Circular
    (or_else (pattern_is_refused ns i) kind.PatternRefused None)))))

abbrev pub simple_shows : List Node → ℕ → Option SchemaKind
simple_shows ns i = if not (is_skipped ns i) && is_of_simple_type ns i then simple_kind ns i else None

-- ---- the first element that shows something
abbrev pub or_later : ℕ → Option SchemaKind → Option SchemaFault → Option SchemaFault
or_later event None later = later
or_later event (Some k) later = Some (record { kind = k; event = event })

abbrev pub first_from : (ℕ → Option SchemaKind) → ℕ → List Node → Option SchemaFault
first_from shows i [] = None
first_from shows i (n ∷ ns) = or_later n.event (shows i) (first_from shows (suc i) ns)
