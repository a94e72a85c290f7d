-- The laws between the texts of numbers and their values.
use Rattle.std.specs.Prelude.{◌≡◌, ℕ, Bool, true, ℤ, ◌<◌, ◌^◌, List, Some, FitsSigned}
use Rattle.std.specs.Int.{w128}
use Rattle.exi_names.specs.Forms.{HasNoMinusZero, is_float, is_small, is_within}
use Rattle.exi_names.specs.Wholes.{Number}
use Rattle.exi_numerals.specs.declared.decimal.Decimal.{Decimal}
use Rattle.exi_numerals.specs.declared.float.Float.{Float}
use Rattle.exi_numerals.specs.Integers.{integer_in, integer_text}
use Rattle.exi_numerals.specs.Decimals.{decimal_text, decimal_value, is_narrow}
use Rattle.exi_numerals.specs.Floats.{float_text, float_value}

-- ---- the value of a text is one that the datatype has
-- of an integer datatype of that range
abbrev pub IntegerIsInRange : (Number → Bool) → Type 0
IntegerIsInRange range = (text : List ℕ) (n : Number) → integer_in range text ≡ Some n → HasNoMinusZero n × (range n ≡ true)

abbrev pub DecimalIsInRange : Type 0
DecimalIsInRange = (text : List ℕ) (d : Decimal) → decimal_value text ≡ Some d → is_narrow d ≡ true

abbrev pub FloatIsInRange : Type 0
FloatIsInRange = (text : List ℕ) (f : Float) → float_value text ≡ Some f → is_float f.mantissa f.exponent ≡ true

-- ---- what is written is read: each value that the datatype has is the value of its canonical text
abbrev pub IntegerIsRead : (Number → Bool) → Type 0
IntegerIsRead range = (n : Number) → HasNoMinusZero n → range n ≡ true → integer_in range (integer_text n) ≡ Some n

abbrev pub SmallIsRead : Type 0
SmallIsRead = (least : ℤ) (count : ℕ) → IntegerIsRead (is_within least count)

abbrev pub DecimalIsRead : Type 0
DecimalIsRead = (d : Decimal) → is_narrow d ≡ true → decimal_value (decimal_text d) ≡ Some d

abbrev pub FloatIsRead : Type 0
FloatIsRead = (f : Float) → is_float f.mantissa f.exponent ≡ true → float_value (float_text f) ≡ Some f

-- ---- so the canonical text of a value that a text has, has that value
abbrev pub IntegerIsKept : (Number → Bool) → Type 0
IntegerIsKept range = (text : List ℕ) (n : Number) → integer_in range text ≡ Some n → integer_in range (integer_text n) ≡ Some n

abbrev pub DecimalIsKept : Type 0
DecimalIsKept = (text : List ℕ) (d : Decimal) → decimal_value text ≡ Some d → decimal_value (decimal_text d) ≡ Some d

abbrev pub FloatIsKept : Type 0
FloatIsKept = (text : List ℕ) (f : Float) → float_value text ≡ Some f → float_value (float_text f) ≡ Some f

-- the same of each range of so few numbers
abbrev pub SmallIsKept : Type 0
SmallIsKept = (least : ℤ) (count : ℕ) → FitsSigned w128 least → count < 2 ^ 16 → IntegerIsKept (is_small least count)
