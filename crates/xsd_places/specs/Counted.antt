-- A table of how many elements before each pass a test.
use Rattle.std.specs.Prelude.{◌≡◌, ℕ, ◌<◌, Bool, get_or, length}
use Rattle.xsd_places.specs.Kinds.{count_before}
use Rattle.xsd_places.specs.declared.counts.Counts.{Counts}

-- of so many elements
pub record IsCounted (test : ℕ → Bool) (n : ℕ) (counts : Counts) : Type 0 where
  pub count : length counts.before.items ≡ n
  pub each : (i : ℕ) → i < n → get_or counts.before.items i 0 ≡ count_before test i
  pub all : counts.all ≡ count_before test n
