-- Bits that were written, in whole bytes.
use Rattle.std.specs.Prelude.{◌≡◌, ℕ, ◌*◌, ◌-◌, ◌%◌, ◌<◌, ◌≤◌, Bool, false, List, ◌++◌, length, take, replicate}
use Rattle.exi_bits.specs.Bits.{bits}
use Rattle.exi_bits.specs.declared.align.Align.{Align}
use Rattle.exi_bits.specs.declared.align.Align.TheVariants as align

-- so many 0 bits
abbrev pub zeros : ℕ → List Bool
zeros n = replicate n false

-- the bits of the bytes without so many at the end
abbrev pub written : List ℕ → ℕ → List Bool
written bytes spare = take (8 * length bytes - spare) (bits bytes)

-- the last bits, fewer than a byte has, are 0
pub record IsPadded (bytes : List ℕ) (spare : ℕ) : Type 0 where
  pub few : spare < 8
  pub within : spare ≤ 8 * length bytes
  pub padded : bits bytes ≡ written bytes spare ++ zeros spare

-- how many bits are missing to whole bytes
abbrev pub to_byte : ℕ → ℕ
to_byte n = (8 - n % 8) % 8

-- the bits, and 0 bits after the last up to a whole byte
abbrev pub padded : List Bool → List Bool
padded text = text ++ zeros (to_byte (length text))

-- under Bytes there are whole bytes of bits
abbrev pub IsWholeBytes : Align → List Bool → Type 0
IsWholeBytes a text = a ≡ align.Bytes → length text % 8 ≡ 0
