-- Values of Boolean, Integer, Decimal, Float and Binary (EXI 1.0, sections 7.1.1 to 7.1.5): how they are
-- read, item by item, each fault at the first bit of the item in which it shows, and what is written.
use Rattle.std.specs.Prelude.{◌≡◌, ◌==◌, ◌&&◌, not, ℕ, suc, ◌+◌, ◌*◌, ◌-◌, ◌%◌, ◌^◌, ◌<◌, ℤ, pos, negsuc, Bool, true, false, Result, Ok, Err, nat_lt, nat_le, if◌then◌else◌, List, [], ◌++◌, length}
use Rattle.exi_bits.specs.declared.align.Align.{Align}
use Rattle.exi_bits.specs.declared.fault.Fault.{Fault}
use Rattle.exi_bits.specs.declared.fault.Kind.TheVariants as kind
use Rattle.exi_bits.specs.Bits.{Spot, bits, number}
use Rattle.exi_bits.specs.Repeat.{Reader, octets_at}
use Rattle.exi_bits.specs.Unsigned.{◌>>=◌, fault_at, field_at, below_at, shortest, unsigned_at}
use Rattle.exi_items.specs.Charges.{Charged, text_charge, after_text}
use Rattle.exi_meter.specs.Metering.{Metering}
use Rattle.exi_names.specs.Wholes.{Number}
use Rattle.exi_names.specs.Seen.{Value, boolean, decimal, float, binary}

-- 1 for what is so
abbrev pub one_if : Bool → ℕ
one_if false = 0
one_if true = 1

-- ---- Boolean
-- one bit
unfoldable pub bit_at : Align → Reader Bool
bit_at a s = do
  bit ← below_at 2 a kind.BadPlace s
  Ok (bit.0 == 1, bit.1)

-- two bits, where the datatype has a pattern: 0 `false`, 1 `0`, 2 `true`, 3 `1`
unfoldable pub pair_at : Align → Reader ℕ
pair_at a s = below_at 4 a kind.BadPlace s

unfoldable pub boolean_at : Bool → Align → Reader Value
boolean_at false a s = do
  truth ← bit_at a s
  Ok (boolean truth.0 false, truth.1)
boolean_at true a s = do
  which ← pair_at a s
  Ok (boolean (nat_le 2 which.0) (which.0 % 2 == 1), which.1)

abbrev pub boolean_bits : Bool → Align → Value → List Bool
boolean_bits false a (boolean truth digit) = number 1 a (one_if truth)
boolean_bits true a (boolean truth digit) = number 2 a (2 * one_if truth + one_if digit)
boolean_bits pattern a other = []

-- a boolean, by a digit only where the datatype has a pattern
abbrev pub IsBoolean : Bool → Value → Type 0
IsBoolean pattern (boolean truth digit) = pattern ≡ false → digit ≡ false
IsBoolean pattern other = ⊥

-- ---- Integer
-- A sign and how far the number is from 0, or if it is negative from -1. Here it is from -2 ^ 127 to 2 ^ 127 - 1.
unfoldable pub signed_at : Align → Reader (Bool × ℕ)
signed_at a s = do
  minus ← bit_at a s
  size ← unsigned_at minus.1
  if nat_lt size.0 (2 ^ 127) then Ok ((minus.0, size.0), size.1) else fault_at kind.TooWide minus.1

abbrev pub signed_bits : Align → Bool × ℕ → List Bool
signed_bits a n = number 1 a (one_if n.0) ++ bits (shortest n.1)

-- the number of that sign, so far from 0 or from -1
abbrev pub whole_of : Bool × ℕ → Number
whole_of (false, n) = record { minus = false; size = n }
whole_of (true, n) = record { minus = true; size = suc n }

-- the sign, and how far the number is from 0 or from -1
abbrev pub parts_of : Number → Bool × ℕ
parts_of n = (n.minus, n.size - one_if n.minus)

unfoldable pub integer_at : Align → Reader Number
integer_at a s = do
  n ← signed_at a s
  Ok (whole_of n.0, n.1)

abbrev pub integer_bits : Align → Number → List Bool
integer_bits a n = signed_bits a (parts_of n)

-- from -2 ^ 127 to 2 ^ 127 - 1
abbrev pub IsInteger : Number → Type 0
IsInteger n = (parts_of n).1 < 2 ^ 127

-- ---- Decimal
-- a sign, the part before the point, and the digits behind it in reverse
unfoldable pub decimal_at : Align → Reader Value
decimal_at a s = do
  minus ← bit_at a s
  whole ← unsigned_at minus.1
  back ← unsigned_at whole.1
  Ok (decimal minus.0 whole.0 back.0, back.1)

abbrev pub decimal_bits : Align → Value → List Bool
decimal_bits a (decimal minus whole back) = number 1 a (one_if minus) ++ bits (shortest whole) ++ bits (shortest back)
decimal_bits a other = []

abbrev pub IsDecimal : Value → Type 0
IsDecimal (decimal minus whole back) = Unit {0}
IsDecimal other = ⊥

-- ---- Float
-- the number of that sign, so far from 0 or from -1
abbrev pub int_of : Bool × ℕ → ℤ
int_of (false, n) = pos n
int_of (true, n) = negsuc n

abbrev pub parts_of_int : ℤ → Bool × ℕ
parts_of_int (pos n) = (false, n)
parts_of_int (negsuc n) = (true, n)

-- -16384: no exponent, but a sign that the mantissa tells infinity, or what is not a number
abbrev pub is_least : Bool × ℕ → Bool
is_least n = n.0 && n.1 == 16383

-- 1 or -1
abbrev pub is_one : Bool × ℕ → Bool
is_one n = n.1 == 1 - one_if n.0

-- what is not a number has the mantissa 0
abbrev pub float_of : Bool × ℕ → Bool × ℕ → Value
float_of mantissa exponent = float (if is_least exponent && not (is_one mantissa) then pos 0 else int_of mantissa) (int_of exponent)

-- an Integer from -2 ^ n to 2 ^ n - 1
unfoldable pub small_at : ℕ → Align → Reader (Bool × ℕ)
small_at n a s = do
  found ← signed_at a s
  if nat_lt found.0.1 (2 ^ n) then Ok found else fault_at kind.BadFloat s

-- a mantissa of 64 bits, and an exponent of ten from -16384 to 16383
unfoldable pub float_at : Align → Reader Value
float_at a s = do
  mantissa ← small_at 63 a s
  exponent ← small_at 14 a mantissa.1
  Ok (float_of mantissa.0 exponent.0, exponent.1)

abbrev pub float_bits : Align → Value → List Bool
float_bits a (float mantissa exponent) = signed_bits a (parts_of_int mantissa) ++ signed_bits a (parts_of_int exponent)
float_bits a other = []

-- the exponent is from -16384 to 16383, and at -16384 the mantissa is -1, 0 or 1
abbrev pub IsFloat : Value → Type 0
IsFloat (float mantissa exponent) = ((parts_of_int exponent).1 < 2 ^ 14) × (float_of (parts_of_int mantissa) (parts_of_int exponent) ≡ float mantissa exponent)
IsFloat other = ⊥

-- ---- Binary
-- The octets behind their number, which is charged as text. TextLimit comes at the number.
unfoldable pub binary_at : Bool → Charged → Result (Value × Charged) Fault
binary_at hex c = do
  count ← unsigned_at c.spot
  meter ← text_charge count.0 c.spot.place c.meter
  octets ← octets_at count.0 count.1
  Ok (binary hex octets.0, record { spot = octets.1; meter = meter })

-- the meter after the number of octets that was read, or as it was
abbrev pub after_count : Metering → Result (ℕ × Spot) Fault → Metering
after_count m (Ok count) = after_text m count.0
after_count m (Err f) = m

abbrev pub binary_bits : Value → List Bool
binary_bits (binary hex octets) = bits (shortest (length octets)) ++ bits octets
binary_bits other = []

abbrev pub IsBinary : Value → Type 0
IsBinary (binary hex octets) = Unit {0}
IsBinary other = ⊥
