-- Types whose content is mixed (XML Schema 1.0 Part 1, section 3.4.2).
use Rattle.std.specs.Prelude.{ℕ, zero, suc, ◌+◌, ◌==◌, Bool, false, ◌&&◌, Option, Some, None, List, length, if◌then◌else◌}
use Rattle.xsd_tree.specs.declared.node.Node.{Node}
use Rattle.xsd_nodes.specs.declared.attribute_name.AttributeName.TheVariants as attribute
use Rattle.xsd_nodes.specs.declared.part.Part.TheVariants as part
use Rattle.xsd_nodes.specs.Nodes.{holder, is_at, text_at}
use Rattle.xsd_nodes.specs.PartNames.{is_part}
use Rattle.xsd_builtins.specs.BuiltIns.{any_type}
use Rattle.xsd_components.specs.References.{base, derivation}
use Rattle.xsd_components.specs.declared.type_at.TypeAt.{TypeAt}
use Rattle.xsd_components.specs.declared.type_at.TypeAt.TheVariants as type_at
use Rattle.xsd_contents.specs.Contents.{is_mixed, is_yes, leaves_base}

-- where an extension leaves the content of its base, the base's
abbrev pub mixed_base : (TypeAt → Bool) → Option TypeAt → Bool
mixed_base of None = false
mixed_base of (Some t) = of t

abbrev pub is_mixed_extension : List Node → (TypeAt → Bool) → ℕ → Bool
is_mixed_extension ns of d = if leaves_base ns d then mixed_base of (base ns d) else is_mixed ns d

-- by the element that derives the type
abbrev pub is_mixed_complex : List Node → (TypeAt → Bool) → ℕ → Bool
is_mixed_complex ns of d =
    if is_at ns part.Restriction d then is_mixed ns d
    else if is_at ns part.Extension d then is_mixed_extension ns of d
    else false

abbrev pub is_mixed_in : List Node → (TypeAt → Bool) → ℕ → Option ℕ → Bool
is_mixed_in ns of i None = is_yes (text_at ns attribute.Mixed i)
is_mixed_in ns of i (Some d) = is_part part.ComplexContent (holder ns d) && is_mixed_complex ns of d

-- through so many types
abbrev pub is_mixed_within : ℕ → List Node → TypeAt → Bool
is_mixed_within zero ns t = false
is_mixed_within (suc n) ns (type_at.Built place) = place == any_type
is_mixed_within (suc n) ns (type_at.Node i) = is_at ns part.ComplexType i && is_mixed_in ns (is_mixed_within n ns) i (derivation ns i)

abbrev pub is_mixed_type : List Node → TypeAt → Bool
is_mixed_type ns t = is_mixed_within (length ns + 1) ns t
