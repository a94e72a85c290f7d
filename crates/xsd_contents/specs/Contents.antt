-- What the content of a type is made of, as far as simple types ask it (XML Schema 1.0 Part 1, section 3.4.2).
use Rattle.std.specs.Prelude.{ℕ, zero, suc, ◌+◌, ◌==◌, Bool, true, false, ◌&&◌, not, Option, Some, None, List, [], ◌∷◌, length, if◌then◌else◌}
use Rattle.exi_names.specs.Datatypes.{boolean, unsigned}
use Rattle.exi_names.specs.Seen.{Value}
use Rattle.exi_names.specs.Seen as seen
use Rattle.exi_lexical.specs.Values.{value}
use Rattle.xsd_tree.specs.declared.node.Node.{Node}
use Rattle.xsd_nodes.specs.declared.attribute_name.AttributeName.{AttributeName}
use Rattle.xsd_nodes.specs.declared.attribute_name.AttributeName.TheVariants as attribute
use Rattle.xsd_nodes.specs.declared.part.Part.{Part}
use Rattle.xsd_nodes.specs.declared.part.Part.TheVariants as part
use Rattle.xsd_builtins.specs.BuiltIns.{any_type}
use Rattle.xsd_contents.specs.declared.value_step.ValueStep.{ValueStep}
use Rattle.xsd_contents.specs.declared.value_step.ValueStep.TheVariants as step
use Rattle.xsd_nodes.specs.PartNames.{is_part}
use Rattle.xsd_nodes.specs.Nodes.{child, has, holder, is_among_at, is_at, parent_at, parent_of, text_at}
use Rattle.xsd_components.specs.References.{base, derivation, is_simple}
use Rattle.xsd_components.specs.declared.type_at.TypeAt.{TypeAt}
use Rattle.xsd_components.specs.declared.type_at.TypeAt.TheVariants as type_at

-- ---- values of attributes
-- the text has the boolean value true
abbrev pub is_truth : Option Value → Bool
is_truth (Some (seen.boolean truth digit)) = truth
is_truth v = false

abbrev pub is_yes : Option (List ℕ) → Bool
is_yes None = false
is_yes (Some text) = is_truth (value (boolean false) text)

-- how often a particle stands: a number, once where none is told
abbrev pub counted : Option Value → Option ℕ
counted (Some (seen.integer n)) = Some n.size
counted v = None

abbrev pub number_in : Option (List ℕ) → Option ℕ
number_in None = Some 1
number_in (Some text) = counted (value unsigned text)

abbrev pub is_number : ℕ → Option ℕ → Bool
is_number n None = false
is_number n (Some m) = n == m

-- ---- mixed content
-- the word of `complexContent` counts before that of `complexType`
abbrev pub told_before : Option (List ℕ) → Option (List ℕ) → Option (List ℕ)
told_before None outer = outer
told_before (Some text) outer = Some text

abbrev pub text_of_holder : List Node → AttributeName → Option ℕ → Option (List ℕ)
text_of_holder ns told None = None
text_of_holder ns told (Some i) = text_at ns told i

-- for the restriction or extension of a complexContent
abbrev pub is_mixed : List Node → ℕ → Bool
is_mixed ns d = is_yes (told_before (text_of_holder ns attribute.Mixed (parent_at ns d)) (text_of_holder ns attribute.Mixed (parent_of ns (parent_at ns d))))

-- ---- content of its own
abbrev pub model_groups : List Part
model_groups = part.Group ∷ part.All ∷ part.Choice ∷ part.Sequence ∷ []

abbrev pub particles : List Part
particles = part.Element ∷ part.Group ∷ part.Choice ∷ part.Sequence ∷ part.Any ∷ part.All ∷ []

-- nothing stands within
abbrev pub is_bare : List Node → ℕ → Bool
is_bare ns i = not (has (child ns particles i))

-- it stands no time at all (XML Schema 1.0 Part 1, section 3.9.2)
abbrev pub is_left_out : List Node → ℕ → Bool
is_left_out ns i = is_number 0 (number_in (text_at ns attribute.MaxOccurs i))

-- one that is left out, a sequence of nothing, or a choice of nothing that may be left out
abbrev pub is_empty_model : List Node → ℕ → Bool
is_empty_model ns i =
    if is_left_out ns i then true
    else if is_among_at ns (part.Sequence ∷ part.All ∷ []) i then is_bare ns i
    else is_at ns part.Choice i && is_bare ns i && is_number 0 (number_in (text_at ns attribute.MinOccurs i))

abbrev pub is_empty_particle : List Node → Option ℕ → Bool
is_empty_particle ns None = true
is_empty_particle ns (Some i) = is_empty_model ns i

-- for a type, or a restriction or extension
abbrev pub is_empty : List Node → ℕ → Bool
is_empty ns i = is_empty_particle ns (child ns model_groups i)

-- an extension that leaves the content of its base as it is
abbrev pub leaves_base : List Node → ℕ → Bool
leaves_base ns d = is_empty ns d && not (is_mixed ns d)

-- ---- the simple type of a content that is a value
-- it is known, or that of another type
abbrev pub by_base : Option TypeAt → ValueStep
by_base None = step.Ends None
by_base (Some t) = step.Goes t

-- of the type that is derived by the element at `d`
abbrev pub value_in_simple : List Node → ℕ → ValueStep
value_in_simple ns d =
    if is_at ns part.Restriction d then step.Ends (Some (type_at.Node d))
    else if is_at ns part.Extension d then by_base (base ns d)
    else step.Ends None

abbrev pub value_in_complex : List Node → ℕ → ValueStep
value_in_complex ns d = if is_at ns part.Extension d && leaves_base ns d then by_base (base ns d) else step.Ends None

abbrev pub value_derived : List Node → Option ℕ → ValueStep
value_derived ns None = step.Ends None
value_derived ns (Some d) =
    if is_part part.SimpleContent (holder ns d) then value_in_simple ns d
    else if is_part part.ComplexContent (holder ns d) then value_in_complex ns d
    else step.Ends None

-- a simple type is its own
abbrev pub value_here : List Node → TypeAt → ValueStep
value_here ns (type_at.Built place) = step.Ends (if place == any_type then None else Some (type_at.Built place))
value_here ns (type_at.Node i) = if is_simple ns (type_at.Node i) then step.Ends (Some (type_at.Node i)) else value_derived ns (derivation ns i)

abbrev pub after_step : (TypeAt → Option TypeAt) → ValueStep → Option TypeAt
after_step more (step.Ends t) = t
after_step more (step.Goes t) = more t

-- through so many types
abbrev pub value_type_within : ℕ → List Node → TypeAt → Option TypeAt
value_type_within zero ns t = None
value_type_within (suc n) ns t = after_step (value_type_within n ns) (value_here ns t)

abbrev pub value_type : List Node → TypeAt → Option TypeAt
value_type ns t = value_type_within (length ns + 1) ns t
