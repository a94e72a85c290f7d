-- What is left of a text that is read line by line.
use Rattle.std.specs.Prelude.{ℕ, List}

-- its bytes, and the number of the first line of them
pub record LinesLeft : Type 0 where
  pub bytes : List ℕ
  pub line : ℕ
