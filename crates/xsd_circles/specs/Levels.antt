-- Numbers for elements that never rise along a step: a path that has come below a number never comes back to it.
use Rattle.std.specs.Prelude.{◌≡◌, ℕ, ◌+◌, ◌<◌, nat_lt, Bool, true, Option, Some, None, List, get_or, length}
use Rattle.std.specs.List.{list_all}
use Rattle.xsd_tree.specs.declared.node.Node.{Node}
use Rattle.xsd_steps.specs.Steps.{steps}

-- what holds of where a step leads, if it leads anywhere
abbrev pub is_so : (ℕ → Bool) → Option ℕ → Bool
is_so test None = true
is_so test (Some i) = test i

abbrev pub level_at : List ℕ → ℕ → ℕ
level_at levels i = get_or levels i 0

abbrev pub is_under : List ℕ → ℕ → ℕ → Bool
is_under levels bound i = nat_lt (level_at levels i) bound

-- each step leads below a level
abbrev pub are_under : List ℕ → ℕ → List (Option ℕ) → Bool
are_under levels bound ss = list_all (is_so (is_under levels bound)) ss

-- no step leads higher
abbrev pub NeverRise : List Node → List ℕ → Type 0
NeverRise ns levels = (i : ℕ) → i < length ns → are_under levels (level_at levels i + 1) (steps ns i) ≡ true
