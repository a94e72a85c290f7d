-- What the attribute wildcard of a type comes to (XML Schema 1.0 Part 1, section 3.4.2).
use Rattle.std.specs.Prelude.{ℕ, zero, suc, ◌==◌, Bool, true, false, ◌||◌, ◌&&◌, not, Option, Some, None, List, [], ◌∷◌, ◌++◌, length, map, if◌then◌else◌}
use Rattle.xsd_builtins.specs.BuiltIns.{any_type}
use Rattle.xsd_tree.specs.declared.node.Node.{Node}
use Rattle.xsd_nodes.specs.declared.part.Part.TheVariants as part
use Rattle.xsd_nodes.specs.Nodes.{children, has, holder, is_among_at, is_at}
use Rattle.xsd_nodes.specs.PartNames.{is_among}
use Rattle.xsd_components.specs.References.{base, derivation, is_simple}
use Rattle.xsd_derivations.specs.Derivations.{attribute_groups_named}
use Rattle.xsd_components.specs.declared.type_at.TypeAt.{TypeAt}
use Rattle.xsd_components.specs.declared.type_at.TypeAt.TheVariants as type_at
use Rattle.xsd_paths.specs.Paths.{has_whole_groups, is_whole_type}
use Rattle.xsd_wildcards.specs.Wildcards.{allowed_at, both}
use Rattle.xsd_wildcards.specs.declared.allowed.Allowed.{Allowed}
use Rattle.xsd_wildcards.specs.declared.allowed.Allowed.TheVariants as allows

-- ---- of several
abbrev pub together : Option Allowed → Option Allowed → Option Allowed
together None b = b
together (Some a) None = Some a
together (Some a) (Some b) = Some (both a b)

-- one after another
abbrev pub all_together : Option Allowed → List (Option Allowed) → Option Allowed
all_together found [] = found
all_together found (a ∷ more) = all_together (together found a) more

-- ---- of an element that holds attributes
abbrev pub of_group : (ℕ → Option Allowed) → Option ℕ → Option Allowed
of_group of None = None
of_group of (Some g) = of g

-- its own wildcard and those of the groups of attributes that it names, through so many groups
abbrev pub wild_within : ℕ → List Node → ℕ → Option Allowed
wild_within zero ns i = None
wild_within (suc n) ns i =
    all_together None (map (λ j. Some (allowed_at ns j)) (children ns (part.AnyAttribute ∷ []) i)
    ++ map (of_group (wild_within n ns)) (attribute_groups_named ns i))

unfoldable pub own_wild : List Node → ℕ → Option Allowed
own_wild ns i = wild_within (suc (length ns)) ns i

-- ---- of a type
-- the element of a type that holds its attributes
abbrev pub or_itself : ℕ → Option ℕ → ℕ
or_itself i None = i
or_itself i (Some d) = d

abbrev pub attributes_in : List Node → ℕ → ℕ
attributes_in ns i = or_itself i (derivation ns i)

-- an extension without one has that of its base, and another type its own alone
abbrev pub wild_of_base : (TypeAt → Option Allowed) → Option TypeAt → Option Allowed
wild_of_base of None = None
wild_of_base of (Some t) = of t

abbrev pub or_inherited : List Node → (TypeAt → Option Allowed) → ℕ → Option Allowed → Option Allowed
or_inherited ns of d (Some a) = Some a
or_inherited ns of d None = if is_at ns part.Extension d then wild_of_base of (base ns d) else None

abbrev pub type_wild_within : ℕ → List Node → TypeAt → Option Allowed
type_wild_within zero ns t = None
type_wild_within (suc n) ns (type_at.Built place) = if place == any_type then Some allows.Every else None
type_wild_within (suc n) ns (type_at.Node i) =
    if is_simple ns (type_at.Node i) then None
    else or_inherited ns (type_wild_within n ns) (attributes_in ns i) (own_wild ns (attributes_in ns i))

unfoldable pub type_wild : List Node → TypeAt → Option Allowed
type_wild ns t = type_wild_within (suc (length ns)) ns t

-- the groups of attributes that a type and those that it extends name are there, and the paths from them are whole
abbrev pub base_groups : List Node → (TypeAt → Bool) → ℕ → Option TypeAt → Bool
base_groups ns are d None = true
base_groups ns are d (Some t) = not (is_at ns part.Extension d) || are t

abbrev pub whole_groups_within : ℕ → List Node → TypeAt → Bool
whole_groups_within zero ns t = false
whole_groups_within (suc n) ns (type_at.Built place) = true
whole_groups_within (suc n) ns (type_at.Node i) =
    is_simple ns (type_at.Node i)
    || (has_whole_groups ns (attributes_in ns i) && base_groups ns (whole_groups_within n ns) (attributes_in ns i) (base ns (attributes_in ns i)))

abbrev pub has_all_groups : List Node → TypeAt → Bool
has_all_groups ns t = whole_groups_within (suc (length ns)) ns t

-- attribute wildcards both on a type and on its base
abbrev pub has_wild_type : List Node → Option TypeAt → Bool
has_wild_type ns None = false
has_wild_type ns (Some t) = is_whole_type ns t && has_all_groups ns t && has (type_wild ns t)

-- anyType as the base of a restriction does not count: this is how XML Schema writes a complex type without a base at length
abbrev pub is_any_type : Option TypeAt → Bool
is_any_type None = false
is_any_type (Some (type_at.Built place)) = place == any_type
is_any_type (Some (type_at.Node i)) = false

abbrev pub has_wild_base : List Node → ℕ → Option TypeAt → Bool
has_wild_base ns i b = not (is_at ns part.Restriction i && is_any_type b) && has_wild_type ns b

abbrev pub derives_content : List Node → ℕ → Bool
derives_content ns i =
    is_among_at ns (part.Restriction ∷ part.Extension ∷ []) i && is_among (part.SimpleContent ∷ part.ComplexContent ∷ []) (holder ns i)

abbrev pub is_second_wild : List Node → ℕ → Bool
is_second_wild ns i = derives_content ns i && has_whole_groups ns i && has (own_wild ns i) && has_wild_base ns i (base ns i)
