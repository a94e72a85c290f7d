-- Which groups of attributes have an attribute wildcard, and where types have theirs from, found from what is known of the groups
-- and bases that they name.
use Rattle.std.specs.Prelude.{◌≡◌, ℕ, Bool, false, true, ◌||◌, ◌&&◌, Option, Some, None, List, [], ◌∷◌, get_or, length, if◌then◌else◌}
use Rattle.std.specs.List.{list_any}
use Rattle.xsd_tree.specs.declared.node.Node.{Node}
use Rattle.xsd_nodes.specs.Nodes.{child, has, is_among_at, is_at, is_global}
use Rattle.xsd_nodes.specs.declared.part.Part.TheVariants as part
use Rattle.xsd_components.specs.References.{attribute_groups, base, is_simple}
use Rattle.xsd_components.specs.declared.type_at.TypeAt.{TypeAt}
use Rattle.xsd_components.specs.declared.type_at.TypeAt.TheVariants as type_at
use Rattle.xsd_derivations.specs.Derivations.{attribute_groups_named}
use Rattle.xsd_paths.specs.Paths.{has_whole_groups, is_whole, is_whole_type, leads_to}
use Rattle.xsd_type_wildcards.specs.Sources.{from_any_type, has_own, holder_or, is_wild, source_of}
use Rattle.xsd_type_wildcards.specs.TypeWildcards.{attributes_in, has_all_groups, wild_within}
use Rattle.xsd_type_wildcards.specs.declared.source.Source.{Source}
use Rattle.xsd_type_wildcards.specs.declared.source.Source.TheVariants as source

-- ---- an element that holds attributes
-- it holds a wildcard, or names a group that has one
abbrev pub holds_wild : List Node → ℕ → Bool
holds_wild ns i = has (child ns (part.AnyAttribute ∷ []) i)

abbrev pub has_own_by : List Node → (ℕ → Bool) → ℕ → Bool
has_own_by ns test i = holds_wild ns i || list_any (leads_to test) (attribute_groups_named ns i)

-- ---- groups
abbrev pub is_group : List Node → ℕ → Bool
is_group ns i = is_global ns i && is_among_at ns attribute_groups i

-- it has one, through as many groups as there are elements
abbrev pub has_deep : List Node → ℕ → Bool
has_deep ns g = has (wild_within (length ns) ns g)

abbrev pub is_marked : List Bool → ℕ → Bool
is_marked groups g = get_or groups g false

-- these tell it of the groups whose paths end
pub record AreGroups (ns : List Node) (groups : List Bool) : Type 0 where
  pub each : (g : ℕ) → is_group ns g ≡ true → is_whole ns g ≡ true → is_marked groups g ≡ has_deep ns g

-- ---- what is told where all the groups are there, and their paths end
abbrev pub if_whole : {X : Type 0} → Bool → X → Option X
if_whole whole found = if whole then Some found else None

abbrev pub own_told : List Node → ℕ → Option Bool
own_told ns i = if_whole (has_whole_groups ns i) (has_own ns i)

abbrev pub is_told : Option Bool → Bool
is_told None = false
is_told (Some own) = own

-- ---- types
abbrev pub type_told : List Node → TypeAt → Option Source
type_told ns t = if_whole (has_all_groups ns t) (source_of ns t)

abbrev pub is_present : Option Source → Bool
is_present None = false
is_present (Some s) = is_wild s

-- by what is told of the base
abbrev pub held_or : ℕ → Option Bool → Option Source → Option Source
held_or d None of = None
held_or d (Some own) None = None
held_or d (Some own) (Some of) = Some (holder_or own d of)

abbrev pub base_told : List Node → (TypeAt → Option Source) → ℕ → Option TypeAt → Option Source
base_told ns of d None = Some source.Nowhere
base_told ns of d (Some t) = if is_at ns part.Extension d then of t else Some source.Nowhere

abbrev pub derived_told : List Node → (TypeAt → Option Source) → ℕ → Option Source
derived_told ns of d = held_or d (own_told ns d) (base_told ns of d (base ns d))

abbrev pub told_by : List Node → (TypeAt → Option Source) → ℕ → Option Source
told_by ns of i = if is_simple ns (type_at.Node i) then Some source.Nowhere else derived_told ns of (attributes_in ns i)

-- by a table; a place behind them all is no complex type
abbrev pub told_in : List (Option Source) → TypeAt → Option Source
told_in types (type_at.Built place) = Some (from_any_type place)
told_in types (type_at.Node i) = get_or types i (Some source.Nowhere)

pub record AreTypes (ns : List Node) (types : List (Option Source)) : Type 0 where
  pub each : (t : TypeAt) → is_whole_type ns t ≡ true → told_in types t ≡ type_told ns t
