-- Quantities in braces, as `{2,5}` (XML Schema 1.0 Part 2, appendix F).
use Rattle.std.specs.Prelude.{ℕ, ◌==◌, Bool, true, false, ◌||◌, ◌&&◌, not, nat_le, List, [], ◌∷◌, Option, Some, None, if◌then◌else◌}
use Rattle.exi_digits.specs.Digits.{is_numeral, number_of}
use Rattle.exi_digits.specs.Splits.{before, behind, is_mark}

-- a zero stands in front
abbrev pub begins_zero : List ℕ → Bool
begins_zero [] = false
begins_zero (c ∷ cs) = c == 48

-- so many at most: not none, and not fewer than the least
abbrev pub is_most : ℕ → List ℕ → Bool
is_most least [] = true
is_most least (c ∷ cs) = is_numeral (c ∷ cs) && not (number_of (c ∷ cs) == 0) && nat_le least (number_of (c ∷ cs))

-- without a comma: so many, and not none
abbrev pub is_bound : List ℕ → Option (List ℕ) → Bool
is_bound least None = is_numeral least && not (number_of least == 0)
is_bound least (Some most) = is_numeral least && is_most (number_of least) most

-- a number, a number and a comma, or two numbers
unfoldable pub is_quantity : List ℕ → Bool
is_quantity text = is_bound (before (is_mark 44) text) (behind (is_mark 44) text)

abbrev pub closed_quantity : List ℕ → Option (List ℕ) → Option (List ℕ)
closed_quantity text None = None
closed_quantity text (Some rest) = if is_quantity text then Some rest else None

-- what is left behind a quantity and its `}`
unfoldable pub quantity : List ℕ → Option (List ℕ)
quantity rest = closed_quantity (before (is_mark 125) rest) (behind (is_mark 125) rest)
