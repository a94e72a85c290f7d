-- Components that reach themselves (XML Schema 1.0 Part 1, sections 3.3.6, 3.4.6, 3.6.6, 3.8.6 and 3.14.6).
use Rattle.std.specs.Prelude.{ℕ, zero, suc, ◌==◌, Bool, false, ◌||◌, List, length}
use Rattle.std.specs.List.{list_any}
use Rattle.xsd_tree.specs.declared.node.Node.{Node}
use Rattle.xsd_paths.specs.Paths.{leads_to}
use Rattle.xsd_steps.specs.Steps.{steps}

-- within so many steps a path comes to this component
abbrev pub reaches : ℕ → List Node → ℕ → ℕ → Bool
reaches zero ns goal i = false
reaches (suc n) ns goal i = list_any (leads_to (λ j. (j == goal) || reaches n ns goal j)) (steps ns i)

-- a path that comes to no element twice has no more steps than there are elements
unfoldable pub reaches_itself : List Node → ℕ → Bool
reaches_itself ns i = reaches (length ns) ns i i
