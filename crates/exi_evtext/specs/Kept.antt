-- What stands where memory ran out in the midst of writing.
use Rattle.std.specs.Prelude.{◌≡◌, ℕ, List, ◌++◌}

-- what was there stands in front; something may stand behind it
pub record Keeps (old new : List ℕ) : Type 0 where
  pub more : List ℕ
  pub held : new ≡ old ++ more
