-- Decimals as text (XML Schema Part 2, section 3.2.3): "a finite-length sequence of decimal digits separated by
-- a period as a decimal indicator. An optional leading sign is allowed." The period may be left out.
use Rattle.std.specs.Prelude.{ℕ, ◌^◌, Bool, ◌&&◌, nat_lt, List, [], ◌∷◌, ◌++◌, decimal, Option, Some, None, unwrap_or, if◌then◌else◌}
use Rattle.exi_digits.specs.Digits.{all_digits, back_of, fraction_of, has_any, number_of}
use Rattle.exi_digits.specs.Splits.{before, behind, is_mark}
use Rattle.exi_numerals.specs.Integers.{behind_sign, has_minus, sign_text}
use Rattle.exi_numerals.specs.declared.decimal.Decimal.{Decimal}

-- what stands before the point, without the sign
abbrev pub whole_digits : List ℕ → List ℕ
whole_digits text = before (is_mark 46) (behind_sign text)

-- what stands behind the point; nothing where there is none
abbrev pub fraction_digits : List ℕ → List ℕ
fraction_digits text = unwrap_or (behind (is_mark 46) (behind_sign text)) []

-- an optional sign, and digits with an optional point among them or at an end; one digit at least
abbrev pub is_decimal_text : List ℕ → Bool
is_decimal_text text = all_digits (whole_digits text) && all_digits (fraction_digits text) && has_any (whole_digits text ++ fraction_digits text)

-- whether the sign is `-`, also before a zero; the part before the point; and the number of the fraction's
-- digits in reverse, to which zeros at the end add nothing
abbrev pub decimal_of : List ℕ → Decimal
decimal_of text = record {
  minus = has_minus text;
  whole = number_of (whole_digits text);
  back = back_of (fraction_digits text);
}

-- both parts are below 2^128 (our own bound)
abbrev pub is_narrow : Decimal → Bool
is_narrow d = nat_lt d.whole (2 ^ 128) && nat_lt d.back (2 ^ 128)

abbrev pub decimal_value : List ℕ → Option Decimal
decimal_value text = if is_decimal_text text && is_narrow (decimal_of text) then Some (decimal_of text) else None

-- ---- the canonical text
-- with a point always, and one digit at least on either side of it; `-` where the sign is so
abbrev pub decimal_text : Decimal → List ℕ
decimal_text d = sign_text d.minus ++ decimal d.whole ++ 46 ∷ fraction_of d.back
