-- What stands where memory ran out in the midst of writing.
use Rattle.std.specs.Prelude.{◌≡◌, Bool, List, ◌++◌}

-- of the text a front was added, maybe none of it or all
pub record HoldsFront (old text new : List Bool) : Type 0 where
  pub front : List Bool
  pub behind : List Bool
  pub parts : text ≡ front ++ behind
  pub held : new ≡ old ++ front
