-- What stands where memory ran out in the midst of writing.
use Rattle.std.specs.Prelude.{◌≡◌, ℕ, List, ◌++◌}

-- of the text a front was added, perhaps none of it or all
pub record HoldsFront (old text new : List ℕ) : Type 0 where
  pub front : List ℕ
  pub behind : List ℕ
  pub parts : text ≡ front ++ behind
  pub held : new ≡ old ++ front
