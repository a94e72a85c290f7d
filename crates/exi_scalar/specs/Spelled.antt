-- Which bits spell a value of Boolean, Integer, Decimal, Float or Binary (EXI 1.0, sections 7.1.1 to 7.1.5).
-- An Unsigned Integer has several spellings, and so has a Float that is not a number.
use Rattle.std.specs.Prelude.{◌≡◌, ℕ, ◌+◌, ◌*◌, ◌^◌, ◌<◌, Bool, false, true, List, length}
use Rattle.exi_bits.specs.declared.align.Align.{Align}
use Rattle.exi_bits.specs.Bits.{IsBytes, bits, number}
use Rattle.exi_items.specs.Spellings.{Made, SpellsUnsigned, Then}
use Rattle.exi_names.specs.Seen.{Value, binary, boolean, decimal}
use Rattle.exi_names.specs.Wholes.{Number}
use Rattle.exi_scalar.specs.Scalars.{float_of, one_if, whole_of}

abbrev pub SpellsBit : Align → Bool → List Bool → Type 0
SpellsBit a bit text = text ≡ number 1 a (one_if bit)

-- one bit, or where the datatype has a pattern two: the truth, and whether a digit spells it
abbrev pub SpellsBoolean : Bool → Align → Value → List Bool → Type 0
SpellsBoolean false a (boolean truth digit) text = (digit ≡ false) × SpellsBit a truth text
SpellsBoolean true a (boolean truth digit) text = text ≡ number 2 a (2 * one_if truth + one_if digit)
SpellsBoolean pattern a other text = ⊥

-- a sign, and how far the number is from 0 or from -1, which is below 2 ^ n
abbrev pub SpellsSigned : ℕ → Align → Bool × ℕ → List Bool → Type 0
SpellsSigned n a p text = (p.1 < 2 ^ n) × Then (SpellsBit a p.0) (SpellsUnsigned p.1) text

-- from -2 ^ 127 to 2 ^ 127 - 1
abbrev pub SpellsInteger : Align → Number → List Bool → Type 0
SpellsInteger a v text = Made whole_of (SpellsSigned 127 a) v text

-- a sign, the part before the point, and the digits behind it in reverse
abbrev pub SpellsDecimal : Align → Value → List Bool → Type 0
SpellsDecimal a (decimal minus whole back) text = Then (SpellsBit a minus) (Then (SpellsUnsigned whole) (SpellsUnsigned back)) text
SpellsDecimal a other text = ⊥

-- a mantissa of 64 bits and an exponent from -16384 to 16383
abbrev pub SpellsFloat : Align → Value → List Bool → Type 0
SpellsFloat a v text = Made {X = (Bool × ℕ) × (Bool × ℕ)} (λ p. float_of p.0 p.1) (λ p. Then (SpellsSigned 63 a p.0) (SpellsSigned 14 a p.1)) v text

-- the number of octets, and the octets
abbrev pub SpellsBinary : Bool → Value → List Bool → Type 0
SpellsBinary hex (binary kind octets) text = (kind ≡ hex) × IsBytes octets × Then (SpellsUnsigned (length octets)) (λ behind. behind ≡ bits octets) text
SpellsBinary hex other text = ⊥
