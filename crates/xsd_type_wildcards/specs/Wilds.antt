-- What the attribute wildcards of groups of attributes allow, by a table of them.
use Rattle.std.specs.Prelude.{◌≡◌, ℕ, ◌<◌, true, Option, Some, None, List, [], ◌∷◌, get_or, length, map, if◌then◌else◌}
use Rattle.xsd_tree.specs.declared.node.Node.{Node}
use Rattle.xsd_nodes.specs.Nodes.{children}
use Rattle.xsd_nodes.specs.declared.part.Part.TheVariants as part
use Rattle.xsd_derivations.specs.Derivations.{attribute_groups_named}
use Rattle.xsd_paths.specs.Paths.{has_whole_groups, is_whole}
use Rattle.xsd_wildcards.specs.Wildcards.{allowed_at}
use Rattle.xsd_wildcards.specs.declared.allowed.Allowed.{Allowed}
use Rattle.xsd_type_wildcards.specs.Told.{is_group}
use Rattle.xsd_type_wildcards.specs.TypeWildcards.{all_together, of_group, own_wild, wild_within}
use Rattle.xsd_type_wildcards.specs.declared.source.Source.{Source}
use Rattle.xsd_type_wildcards.specs.declared.source.Source.TheVariants as source

abbrev pub wild_told : List (Option Allowed) → ℕ → Option Allowed
wild_told groups g = get_or groups g None

abbrev pub held_wilds : List Node → ℕ → List (Option Allowed)
held_wilds ns i = map (λ j. Some (allowed_at ns j)) (children ns (part.AnyAttribute ∷ []) i)

-- by what the groups allow
abbrev pub own_wild_by : List Node → (ℕ → Option Allowed) → ℕ → Option Allowed
own_wild_by ns of i = all_together (all_together None (held_wilds ns i)) (map (of_group of) (attribute_groups_named ns i))

-- these are those of the groups whose paths end
pub record AreWilds (ns : List Node) (groups : List (Option Allowed)) : Type 0 where
  pub each : (g : ℕ) → is_group ns g ≡ true → is_whole ns g ≡ true → wild_told groups g ≡ wild_within (length ns) ns g

-- the groups that the element names from which a wildcard is are there, and the paths from them are whole
abbrev pub HasWholeGroups : List Node → Source → Type 0
HasWholeGroups ns source.Nowhere = Unit
HasWholeGroups ns source.AnyType = Unit
HasWholeGroups ns (source.Holder d) = has_whole_groups ns d ≡ true

-- what an element's own wildcard and those of its groups allow, where these are whole
abbrev pub own_if_whole : List Node → ℕ → Option Allowed
own_if_whole ns i = if has_whole_groups ns i then own_wild ns i else None

-- these tell it of the elements
pub record AreOwn (ns : List Node) (own : List (Option Allowed)) : Type 0 where
  pub each : (i : ℕ) → i < length own → wild_told own i ≡ own_if_whole ns i
