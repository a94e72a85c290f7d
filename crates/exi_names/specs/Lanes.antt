-- Bytes that are looked at at once. No public clause cites this module.
use Rattle.std.specs.Prelude.{◌≡◌, ◌≢◌, ◌+◌, ◌<◌, ◌≤◌, ◌==◌, ℕ, true, List, get_or, if◌then◌else◌}
use Rattle.std.specs.Int.{w64, trailing_zeros}
use Rattle.exi_names.specs.Characters.{is_plain}

-- the place of the lowest bit that is set, or how many bits are looked at
abbrev pub first_set : ℕ → ℕ → ℕ
first_set mask count = if mask == 0 then count else trailing_zeros w64 mask

-- of so many bytes from a place on the first run of them are the same in both, and the next one is not
pub record AreSame (bytes others : List ℕ) (at count run : ℕ) : Type 0 where
  pub within : run ≤ count
  pub same : (k : ℕ) → at ≤ k → k < at + run → get_or bytes k 0 ≡ get_or others k 0
  pub other : run < count → get_or bytes (at + run) 0 ≢ get_or others (at + run) 0

-- of so many bytes from a place on the first run of them are plain
pub record ArePlain (bytes : List ℕ) (at count run : ℕ) : Type 0 where
  pub within : run ≤ count
  pub plain : (k : ℕ) → at ≤ k → k < at + run → is_plain (get_or bytes k 0) ≡ true
