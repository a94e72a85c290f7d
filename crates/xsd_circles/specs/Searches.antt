-- A search along the steps, from one element on.
use Rattle.std.specs.Prelude.{◌≡◌, ℕ, Bool, true, false, if◌then◌else◌, Option, Some, None, List, [], ◌∷◌, ◌++◌, get_or, length, set}
use Rattle.std.specs.List.{list_all}
use Rattle.xsd_tree.specs.declared.node.Node.{Node}
use Rattle.xsd_steps.specs.Steps.{steps}
use Rattle.xsd_circles.specs.Circles.{reaches}
use Rattle.xsd_circles.specs.Levels.{is_so}
use Rattle.xsd_circles.specs.declared.search.Search.{Search}

-- the places that it has come to: whether each is one, and all of them in order
pub record Found : Type 0 where
  pub met : List Bool
  pub queue : List ℕ

abbrev pub shown : Search → Found
shown s = record { met = s.met.items; queue = s.queue.items }

-- what lies behind the elements counts as met
abbrev pub is_met : List Bool → ℕ → Bool
is_met met i = get_or met i true

abbrev pub come_to : ℕ → Found → Found
come_to i f = if is_met f.met i then f else record { met = set f.met i true; queue = f.queue ++ i ∷ [] }

abbrev pub step_on : Option ℕ → Found → Found
step_on None f = f
step_on (Some i) f = come_to i f

abbrev pub come_on : List (Option ℕ) → Found → Found
come_on [] f = f
come_on (s ∷ ss) f = come_on ss (step_on s f)

abbrev pub are_met : List Bool → List (Option ℕ) → Bool
are_met met ss = list_all (is_so (is_met met)) ss

-- it has come to all that paths lead to, and to nothing else
pub record IsSearched (ns : List Node) (i : ℕ) (met : List Bool) : Type 0 where
  pub count : length met ≡ length ns
  pub reached : (j : ℕ) → get_or met j false ≡ true → reaches (length ns) ns j i ≡ true
  pub begun : are_met met (steps ns i) ≡ true
  pub closed : (j : ℕ) → get_or met j false ≡ true → are_met met (steps ns j) ≡ true
