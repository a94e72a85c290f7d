-- What the states of a normal grammar are.
use Rattle.std.specs.Prelude.{◌≡◌, ◌↔◌, ℕ, ◌<◌, Option, Some, None, List, [], ◌∷◌, length, get_or, slice_get}
use Rattle.exi_gram.specs.Terminals.{StepRule, Symbol}
use Rattle.exi_draft.specs.Drafts.{States}
use Rattle.exi_normal.specs.Normals.{Met, met_from, steps_at}

-- one state leads to another by a step that reads nothing
pub record IsFree (states : States) (from to : ℕ) : Type 0 where
  pub place : ℕ
  pub step : StepRule
  pub there : slice_get (steps_at states from) place ≡ Some step
  pub nothing : step.on ≡ None
  pub leads : step.to ≡ to

-- by zero or more of them
pub data IsReached (states : States) : ℕ → ℕ → Type 0 where
  here : (place : ℕ) → IsReached states place place
  behind : (from next to : ℕ) → IsFree states from next → IsReached states next to → IsReached states from to

-- a step that reads this stands in a state that one of the members reaches
pub record IsRead (states : States) (members : List ℕ) (m : Met) : Type 0 where
  pub member : ℕ
  pub member_place : ℕ
  pub member_there : slice_get members member_place ≡ Some member
  pub state : ℕ
  pub reached : IsReached states member state
  pub place : ℕ
  pub there : slice_get (steps_at states state) place ≡ Some (record { on = Some m.on; to = m.to; inner = m.inner; particle = m.particle })

pub record IsMet (states : States) (members : List ℕ) (m : Met) : Type 0 where
  pub place : ℕ
  pub there : slice_get (met_from states members) place ≡ Some m

-- what is read next is exactly what the members reach
abbrev pub MetIsRead : Type 0
MetIsRead = (states : States) (members : List ℕ) (m : Met) → IsMet states members m ↔ IsRead states members m
