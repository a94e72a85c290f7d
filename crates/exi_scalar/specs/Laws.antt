-- The laws between spelling and reading a Binary, whose number of octets is charged, and what is written.
use Rattle.std.specs.Prelude.{◌≡◌, ◌^◌, ◌<◌, Ok, Bool, false, ℕ, ℤ, List, [], ◌++◌, length}
use Rattle.exi_bits.specs.declared.align.Align.{Align}
use Rattle.exi_bits.specs.Bits.{Front, IsAligned, IsBytes, moved, rest}
use Rattle.exi_items.specs.Charges.{Charged, text_charge}
use Rattle.exi_meter.specs.Metering.{Metering}
use Rattle.exi_names.specs.Seen.{Value, binary, decimal, float}
use Rattle.exi_names.specs.Wholes.{Number}
use Rattle.exi_scalar.specs.Scalars.{IsBoolean, IsFloat, IsInteger, binary_at, binary_bits, boolean_bits, decimal_bits, float_bits, integer_bits, parts_of_int}
use Rattle.exi_scalar.specs.Spelled.{SpellsBinary, SpellsBoolean, SpellsDecimal, SpellsFloat, SpellsInteger}

-- what is read is spelled so
abbrev pub BinaryIsSpelled : Type 0
BinaryIsSpelled = (hex : Bool) (a : Align) (v : Value) (c d : Charged) → IsBytes c.spot.bytes → IsAligned a c.spot → binary_at hex c ≡ Ok (v, d) → (text : List Bool) × SpellsBinary hex v text × Front c.spot text d.spot

-- what is spelled so is read, whatever follows, where the meter takes so many octets
abbrev pub BinaryIsRead : Type 0
BinaryIsRead = (hex : Bool) (a : Align) (octets : List ℕ) (m : Metering) (text : List Bool) (c : Charged) (more : List Bool) → IsBytes c.spot.bytes → IsAligned a c.spot → text_charge (length octets) c.spot.place c.meter ≡ Ok m → SpellsBinary hex (binary hex octets) text → rest c.spot ≡ text ++ more
    → binary_at hex c ≡ Ok (binary hex octets, record { spot = moved c.spot (length text); meter = m })

-- no spelling is a proper prefix of another, and each spells one value
abbrev pub BinaryIsNoPrefix : Type 0
BinaryIsNoPrefix = (hex : Bool) (v w : Value) (text other more : List Bool) → SpellsBinary hex v text → SpellsBinary hex w other → text ≡ other ++ more → (v ≡ w) × (more ≡ [])

-- what is written is one of the spellings
abbrev pub BooleanIsWritten : Type 0
BooleanIsWritten = (pattern : Bool) (a : Align) (v : Value) → IsBoolean pattern v → SpellsBoolean pattern a v (boolean_bits pattern a v)

abbrev pub IntegerIsWritten : Type 0
IntegerIsWritten = (a : Align) (v : Number) → (v.size ≡ 0 → v.minus ≡ false) → IsInteger v → SpellsInteger a v (integer_bits a v)

abbrev pub DecimalIsWritten : Type 0
DecimalIsWritten = (a : Align) (minus : Bool) (whole back : ℕ) → whole < 2 ^ 128 → back < 2 ^ 128 → SpellsDecimal a (decimal minus whole back) (decimal_bits a (decimal minus whole back))

abbrev pub FloatIsWritten : Type 0
FloatIsWritten = (a : Align) (mantissa exponent : ℤ) → (parts_of_int mantissa).1 < 2 ^ 63 → IsFloat (float mantissa exponent) → SpellsFloat a (float mantissa exponent) (float_bits a (float mantissa exponent))

abbrev pub BinaryIsWritten : Type 0
BinaryIsWritten = (hex : Bool) (octets : List ℕ) → IsBytes octets → length octets < 2 ^ 128 → SpellsBinary hex (binary hex octets) (binary_bits (binary hex octets))
