-- Whether the base of a type's simpleContent or complexContent is one (XML Schema 1.0 Part 1, sections 3.4.2 and 3.4.6).
use Rattle.std.specs.Prelude.{ℕ, Bool, true, false, ◌||◌, ◌&&◌, not, Option, Some, None, List, [], ◌∷◌, if◌then◌else◌}
use Rattle.xsd_tree.specs.declared.node.Node.{Node}
use Rattle.xsd_nodes.specs.declared.attribute_name.AttributeName.TheVariants as attribute
use Rattle.xsd_nodes.specs.declared.part.Part.TheVariants as part
use Rattle.xsd_nodes.specs.Nodes.{has, holder, is_among_at, is_at, text_at}
use Rattle.xsd_nodes.specs.PartNames.{is_among, is_part}
use Rattle.xsd_components.specs.References.{base, complex_only, inline}
use Rattle.xsd_components.specs.declared.type_at.TypeAt.{TypeAt}
use Rattle.xsd_conditions.specs.Conditions.{if_told}
use Rattle.xsd_contents.specs.Contents.{leaves_base, value_type}
use Rattle.xsd_paths.specs.Paths.{is_whole_type}
use Rattle.xsd_values.specs.Mixed.{is_mixed_type}

-- whether it is a base of this simpleContent: an extension's has values; a restriction's is complex, and has values, or
-- is mixed where the restriction holds a simple type
abbrev pub has_value : List Node → TypeAt → Bool
has_value ns t = has (value_type ns t)

abbrev pub is_some_type : Option TypeAt → Bool
is_some_type None = false
is_some_type (Some t) = true

abbrev pub fits_value : List Node → ℕ → TypeAt → Bool
fits_value ns d t =
    if is_at ns part.Restriction d then is_some_type (complex_only ns (Some t)) && (has_value ns t || (is_some_type (inline ns d) && is_mixed_type ns t))
    else has_value ns t

-- and of this complexContent: what is put behind values adds nothing
abbrev pub fits_elements : List Node → ℕ → TypeAt → Bool
fits_elements ns d t = not (is_at ns part.Extension d) || not (has_value ns t) || leaves_base ns d

abbrev pub fits : List Node → ℕ → TypeAt → Bool
fits ns d t =
    if is_part part.SimpleContent (holder ns d) then fits_value ns d t
    else not (is_part part.ComplexContent (holder ns d)) || fits_elements ns d t

-- asked only where the paths from the base are whole
abbrev pub is_no_base : List Node → ℕ → Option TypeAt → Bool
is_no_base ns d None = true
is_no_base ns d (Some t) = is_whole_type ns t && not (fits ns d t)

abbrev pub lacks_fitting_base : List Node → ℕ → Bool
lacks_fitting_base ns i =
    is_among_at ns (part.Restriction ∷ part.Extension ∷ []) i
    && is_among (part.SimpleContent ∷ part.ComplexContent ∷ []) (holder ns i)
    && if_told (text_at ns attribute.Base i) (is_no_base ns i (base ns i))
