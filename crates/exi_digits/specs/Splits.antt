-- A text at the first character of a kind.
use Rattle.std.specs.Prelude.{ℕ, Bool, ◌==◌, ◌||◌, List, [], ◌∷◌, Option, Some, None, if◌then◌else◌}

-- what stands before the first character that passes; all of the text where none does
abbrev pub before : (ℕ → Bool) → List ℕ → List ℕ
before test [] = []
before test (c ∷ cs) = if test c then [] else c ∷ before test cs

-- what stands behind it, where one passes
abbrev pub behind : (ℕ → Bool) → List ℕ → Option (List ℕ)
behind test [] = None
behind test (c ∷ cs) = if test c then Some cs else behind test cs

-- it is the one character, or the other
abbrev pub is_either : ℕ → ℕ → ℕ → Bool
is_either first second c = c == first || c == second

-- it is that character
abbrev pub is_mark : ℕ → ℕ → Bool
is_mark mark c = c == mark
