-- What lies on the pages of a chain.
use Rattle.std.specs.Prelude.{ℕ, ◌+◌, ◌-◌, ◌*◌, ◌^◌, List, [], ◌∷◌, ◌++◌, length, take, min}
use Rattle.exi_pool.specs.Pages.{Sheet, numbers}
use Rattle.exi_pool.specs.Views.{total, one_if}

pub record Written : Type 0 where
  -- the bytes in order
  pub bytes : List ℕ
  -- how many more there is room for on the newest page, and on all pages
  pub full : ℕ
  pub room : ℕ
  -- the numbers of all pages
  pub pages : List ℕ

-- how often the page n is among them
abbrev pub times : ℕ → List ℕ → ℕ
times n pages = total (one_if n) pages

-- the bytes of pages, the newest first, of which the newest has this many
abbrev pub content : List Sheet → ℕ → List ℕ
content [] used = []
content (s ∷ ss) used = content ss 4096 ++ take used s.bytes

-- pages with bytes, the newest first, and pages that were taken ahead
abbrev pub written : List Sheet → ℕ → List Sheet → Written
written last used spare = record { bytes = content last used; full = 4096 - used; room = 4096 - used + 4096 * length spare; pages = numbers spare ++ numbers last }

-- the bytes of pieces, the last first
abbrev pub backwards : List (List ℕ) → List ℕ
backwards [] = []
backwards (p ∷ ps) = backwards ps ++ p

-- a number, or the largest of 64 bits where it is larger
abbrev pub capped : ℕ → ℕ
capped n = min n (2 ^ 64 - 1)
