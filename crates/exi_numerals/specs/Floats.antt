-- Floats as text (XML Schema Part 2, sections 3.2.4 and 3.2.5): "a mantissa followed, optionally, by the
-- character "E" or "e", followed by an exponent. The exponent must be an integer. The mantissa must be a decimal
-- number." And `INF`, `-INF` and `NaN`. A float is a mantissa times 10 to the exponent (EXI 1.0, section 7.1.4).
use Rattle.std.specs.Prelude.{ℕ, ◌^◌, Bool, false, ◌&&◌, ◌==◌, nat_lt, List, ◌∷◌, ◌++◌, length, codes, Option, Some, None, if◌then◌else◌, ℤ, pos, negsuc, ◌-ℤ◌, int_le, bytes_eq}
use Rattle.std.specs.Fmt.{signed_decimal}
use Rattle.exi_digits.specs.Digits.{number_of}
use Rattle.exi_digits.specs.Splits.{before, behind, is_either}
use Rattle.exi_names.specs.Wholes.{Number, number}
use Rattle.exi_names.specs.Forms.{int_of, is_exponent, is_mantissa, is_special, no_number}
use Rattle.exi_numerals.specs.Integers.{has_minus, integer_value}
use Rattle.exi_numerals.specs.Decimals.{fraction_digits, is_decimal_text, whole_digits}
use Rattle.exi_numerals.specs.declared.float.Float.{Float}

-- what stands before `E` or `e`
abbrev pub mantissa_part : List ℕ → List ℕ
mantissa_part text = before (is_either 69 101) text

-- what stands behind it, where it is there
abbrev pub exponent_part : List ℕ → Option (List ℕ)
exponent_part text = behind (is_either 69 101) text

-- the number of all digits of a decimal, without the point
abbrev pub mantissa_of : List ℕ → ℤ
mantissa_of text = int_of (number (has_minus text) (number_of (whole_digits text ++ fraction_digits text)))

-- the written exponent, where it is an integer; 0 where none is written
abbrev pub written_of : Option Number → Option ℤ
written_of None = None
written_of (Some n) = Some (int_of n)

abbrev pub written_exponent : Option (List ℕ) → Option ℤ
written_exponent None = Some (pos 0)
written_exponent (Some text) = written_of (integer_value text)

-- the number, where it is in the range
abbrev pub held : (ℤ → Bool) → ℤ → Option ℤ
held range n = if range n then Some n else None

-- the mantissa that a decimal's text tells, and how many digits its fraction has
abbrev pub mantissa_in : List ℕ → Option (ℤ × ℕ)
mantissa_in text = if is_decimal_text text && is_mantissa (mantissa_of text) then Some (mantissa_of text, length (fraction_digits text)) else None

-- the exponent: the written one, of which each digit of the fraction takes one
abbrev pub shifted : Option ℤ → ℕ → Option ℤ
shifted None count = None
shifted (Some written) count = held is_exponent (written -ℤ pos count)

abbrev pub exponent_in : Option (List ℕ) → ℕ → Option ℤ
exponent_in text count = shifted (written_exponent text) count

-- the float of both, where both are there
abbrev pub with_exponent : ℤ → Option ℤ → Option Float
with_exponent mantissa None = None
with_exponent mantissa (Some exponent) = Some (record { mantissa = mantissa; exponent = exponent })

abbrev pub joined : Option (ℤ × ℕ) → Option (List ℕ) → Option Float
joined None text = None
joined (Some mantissa) text = with_exponent mantissa.0 (exponent_in text mantissa.1)

-- the value of a number
abbrev pub number_value : List ℕ → Option Float
number_value text = joined (mantissa_in (mantissa_part text)) (exponent_part text)

-- the exponent -16384 tells infinity by the mantissa 1, minus infinity by -1, and by 0 what is not a number
abbrev pub float_value : List ℕ → Option Float
float_value text = if bytes_eq text (codes "INF") then Some (record { mantissa = pos 1; exponent = no_number }) else (if bytes_eq text (codes "-INF") then Some (record { mantissa = negsuc 0; exponent = no_number }) else (if bytes_eq text (codes "NaN") then Some (record { mantissa = pos 0; exponent = no_number }) else number_value text))

-- ---- the canonical text
-- what the exponent -16384 tells
abbrev pub special_text : ℤ → List ℕ
special_text (pos n) = if n == 1 then codes "INF" else codes "NaN"
special_text (negsuc n) = if n == 0 then codes "-INF" else codes "NaN"

-- mantissa, `E`, exponent; or the word
abbrev pub float_text : Float → List ℕ
float_text f = if is_special f.exponent then special_text f.mantissa else signed_decimal f.mantissa ++ 69 ∷ signed_decimal f.exponent
