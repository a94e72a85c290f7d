-- What the writers ask of a value is that its datatype has it.
use Rattle.std.specs.Prelude.{◌≡◌, ◌↔◌, ℕ, ◌^◌, ◌<◌, ℤ, Bool, List}
use Rattle.exi_bits.specs.Bits.{IsBytes}
use Rattle.exi_names.specs.Datatypes as kind
use Rattle.exi_names.specs.Forms.{HasNoMinusZero, IsOf}
use Rattle.exi_names.specs.Seen.{Value, binary, decimal, float, integer}
use Rattle.exi_names.specs.Wholes.{Number}
use Rattle.exi_scalar.specs.Scalars.{IsBoolean, IsDecimal, IsFloat, IsInteger, parts_of_int}

abbrev pub BooleanIsAsked : Type 0
BooleanIsAsked = (pattern : Bool) (v : Value) → IsOf (kind.boolean pattern) v ↔ IsBoolean pattern v

abbrev pub IntegerIsAsked : Type 0
IntegerIsAsked = (n : Number) → IsOf kind.integer (integer n) ↔ HasNoMinusZero n × IsInteger n

-- both parts are within 128 bits
abbrev pub DecimalIsAsked : Type 0
DecimalIsAsked = (minus : Bool) (whole back : ℕ) → IsOf kind.decimal (decimal minus whole back) ↔ IsDecimal (decimal minus whole back) × (whole < 2 ^ 128) × (back < 2 ^ 128)

-- the mantissa is within 64 bits
abbrev pub FloatIsAsked : Type 0
FloatIsAsked = (mantissa exponent : ℤ) → IsOf kind.float (float mantissa exponent) ↔ ((parts_of_int mantissa).1 < 2 ^ 63) × IsFloat (float mantissa exponent)

abbrev pub BinaryIsAsked : Type 0
BinaryIsAsked = (hex spelled : Bool) (octets : List ℕ) → IsOf (kind.binary hex) (binary spelled octets) ↔ (spelled ≡ hex) × IsBytes octets
