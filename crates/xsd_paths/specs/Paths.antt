-- Paths that end: each step of them leads to a component that is there (XML Schema 1.0 Part 1, sections 3.3.6, 3.4.6, 3.6.6,
-- 3.8.6 and 3.14.6).
use Rattle.std.specs.Prelude.{◌≡◌, ℕ, zero, suc, ◌<◌, ◌≤◌, ◌==◌, Bool, true, false, Option, Some, None, List, get_or, length, take}
use Rattle.std.specs.List.{list_all, list_any}
use Rattle.xsd_tree.specs.declared.node.Node.{Node}
use Rattle.xsd_components.specs.declared.type_at.TypeAt.{TypeAt}
use Rattle.xsd_components.specs.declared.type_at.TypeAt.TheVariants as type_at
use Rattle.xsd_derivations.specs.Derivations.{attribute_groups_named}
use Rattle.xsd_steps.specs.Steps.{steps}

abbrev pub leads_to : (ℕ → Bool) → Option ℕ → Bool
leads_to test None = false
leads_to test (Some i) = test i

-- each path ends within so many steps, and what it names is there
abbrev pub is_whole_within : ℕ → List Node → ℕ → Bool
is_whole_within zero ns i = false
is_whole_within (suc n) ns i = list_all (leads_to (is_whole_within n ns)) (steps ns i)

-- a path that comes to no element twice has no more steps than there are elements
unfoldable pub is_whole : List Node → ℕ → Bool
is_whole ns i = is_whole_within (suc (length ns)) ns i

abbrev pub is_whole_type : List Node → TypeAt → Bool
is_whole_type ns (type_at.Built place) = true
is_whole_type ns (type_at.Node i) = is_whole ns i

-- the groups of attributes that an element names are there, and the paths from them are whole
abbrev pub has_whole_groups : List Node → ℕ → Bool
has_whole_groups ns i = list_all (leads_to (is_whole ns)) (attribute_groups_named ns i)

-- ---- in order
abbrev pub is_in : List ℕ → ℕ → Bool
is_in is i = list_any (λ j. i == j) is

-- each stands behind all that its steps lead to, and none is missing; they are no more than there are elements
pub record IsOrder (ns : List Node) (order : List ℕ) : Type 0 where
  pub few : length order ≤ length ns
  pub there : (k : ℕ) → k < length order → get_or order k 0 < length ns
  pub before : (k : ℕ) → k < length order → list_all (leads_to (is_in (take k order))) (steps ns (get_or order k 0)) ≡ true
  pub all : (i : ℕ) → i < length ns → is_whole ns i ≡ true → is_in order i ≡ true
