-- A page and those before it, as contracts name them.
use Rattle.std.specs.Prelude.{◌≡◌, ℕ, List, [], ◌∷◌, map, Option, Some, None}

-- one page: its number, and its bytes
pub record Sheet : Type 0 where
  pub number : ℕ
  pub bytes : List ℕ

abbrev pub sheet : ℕ → List ℕ → Sheet
sheet number bytes = record { number = number; bytes = bytes }

-- pages that may be there
abbrev pub chain : Option (List Sheet) → List Sheet
chain None = []
chain (Some l) = l

-- a page of this number and these bytes, and those before it: what a `Page` is seen as
abbrev pub sheets : ℕ → List ℕ → Option (List Sheet) → List Sheet
sheets number bytes before = sheet number bytes ∷ chain before

abbrev pub number_of : List Sheet → ℕ
number_of [] = 0
number_of (s ∷ ss) = s.number

abbrev pub bytes_of : List Sheet → List ℕ
bytes_of [] = []
bytes_of (s ∷ ss) = s.bytes

abbrev pub before : List Sheet → List Sheet
before [] = []
before (s ∷ ss) = ss

-- no page is before it
abbrev pub IsLone : List Sheet → Type 0
IsLone p = before p ≡ []

-- the numbers of the page and of those before it
abbrev pub numbers : List Sheet → List ℕ
numbers p = map (λ s. s.number) p
