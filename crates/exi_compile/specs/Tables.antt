-- Lists that tell something of each place.
use Rattle.std.specs.Prelude.{◌≡◌, ℕ, ◌<◌, List, length, get_or}

-- of each place below a count what this does
pub record Tells {X : Type 0} (none : X) (what : ℕ → X) (count : ℕ) (xs : List X) : Type 0 where
  pub long : length xs ≡ count
  pub at : (place : ℕ) → place < count → get_or xs place none ≡ what place
