-- The laws between hint text and the numbers that it says.
use Rattle.std.specs.Prelude.{◌≡◌, ℕ, ◌^◌, ◌≤◌, ◌<◌, List, length, All, Ok}
use Rattle.exi_index.specs.Hints.{SaysAll, hints_in, lines_of, most_lines}

-- what is read is said so, and there are no more than the most
pub record IsSpelled (text hints : List ℕ) : Type 0 where
  pub says : SaysAll text hints
  pub few : length hints ≤ most_lines

abbrev pub ReadIsSpelled : Type 0
ReadIsSpelled = (text hints : List ℕ) → hints_in text ≡ Ok hints → IsSpelled text hints

abbrev pub SpelledIsRead : Type 0
SpelledIsRead = (text hints : List ℕ) → SaysAll text hints → length hints ≤ most_lines → hints_in text ≡ Ok hints

-- what is printed is read again
abbrev pub WrittenIsRead : Type 0
WrittenIsRead = (hints : List ℕ) → All (λ h. h < 2 ^ 64) hints → length hints ≤ most_lines → hints_in (lines_of hints) ≡ Ok hints
