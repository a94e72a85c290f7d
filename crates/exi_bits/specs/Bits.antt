-- Bits of bytes, and the n-bit numbers that they spell (EXI 1.0, sections 5.4 and 7.1.9).
use Rattle.std.specs.Prelude.{◌≡◌, Option, Some, None, nat_lt, if◌then◌else◌, ℕ, zero, suc, ◌+◌, ◌*◌, ◌-◌, ◌^◌, ◌%◌, ◌/◌, Bool, true, false, List, [], ◌∷◌, ◌++◌, ◌<◌, length, get_or, take, drop, nat_le}
use Rattle.exi_bits.specs.declared.align.Align.{Align}
use Rattle.exi_bits.specs.declared.align.Align.TheVariants as align

-- the n bits of a number, the most significant first
unfoldable pub number_bits : ℕ → ℕ → List Bool
number_bits zero v = []
number_bits (suc n) v = nat_le (2 ^ n) v ∷ number_bits n (v % 2 ^ n)

-- the bits of the bytes
unfoldable pub bits : List ℕ → List Bool
bits [] = []
bits (b ∷ bs) = number_bits 8 b ++ bits bs

-- each is a byte
abbrev pub IsBytes : List ℕ → Type 0
IsBytes bs = (i : ℕ) → get_or bs i 0 < 256

-- the number that bits spell, the most significant first
unfoldable pub value_of : List Bool → ℕ
value_of [] = 0
value_of (true ∷ bs) = 2 ^ length bs + value_of bs
value_of (false ∷ bs) = value_of bs

-- so many octets that bits spell
unfoldable pub octets_of : ℕ → List Bool → List ℕ
octets_of zero text = []
octets_of (suc n) text = value_of (take 8 text) ∷ octets_of n (drop 8 text)

-- bytes, and the bit at which reading goes on
pub record Spot : Type 0 where
  pub bytes : List ℕ
  pub place : ℕ

-- the bits that are left
abbrev pub rest : Spot → List Bool
rest s = drop s.place (bits s.bytes)

-- how many bits are left
abbrev pub left : Spot → ℕ
left s = 8 * length s.bytes - s.place

-- so many bits further on
abbrev pub moved : Spot → ℕ → Spot
moved s n = record { bytes = s.bytes; place = s.place + n }

-- the same bytes, at another bit
abbrev pub at_bit : Spot → ℕ → Spot
at_bit s place = record { bytes = s.bytes; place = place }

-- at the next whole byte, or where it is if that is one
abbrev pub at_next_byte : Spot → Spot
at_next_byte s = at_bit s ((s.place + 7) / 8 * 8)

-- ---- numbers
-- how many whole bytes hold so many bits
abbrev pub octets : ℕ → ℕ
octets n = (n + 7) / 8

-- so many bytes of a number, the least significant first
unfoldable pub le_bytes : ℕ → ℕ → List ℕ
le_bytes zero v = []
le_bytes (suc n) v = v % 256 ∷ le_bytes n (v / 256)

-- the number that bytes spell, the least significant first
unfoldable pub le_value : List ℕ → ℕ
le_value [] = 0
le_value (b ∷ bs) = b + 256 * le_value bs

-- the spelling of a number of so many bits
abbrev pub number : ℕ → Align → ℕ → List Bool
number n align.Bits v = number_bits n v
number n align.Bytes v = bits (le_bytes (octets n) v)

-- how many bits a number of so many bits takes
abbrev pub taken : ℕ → Align → ℕ
taken n align.Bits = n
taken n align.Bytes = 8 * octets n

-- what is read at a spot, where enough bits are left
abbrev pub value_at : ℕ → Align → Spot → ℕ
value_at n align.Bits s = value_of (take n (rest s))
value_at n align.Bytes s = le_value (take (octets n) (drop (s.place / 8) s.bytes))

-- a number of so many bits, and the spot behind it; nothing where fewer bits are left
unfoldable pub number_at : ℕ → Align → Spot → Option (ℕ × Spot)
number_at n a s = if nat_lt (left s) (taken n a) then None else Some (value_at n a s, moved s (taken n a))

-- under Bytes the place is a whole byte
abbrev pub IsAligned : Align → Spot → Type 0
IsAligned a s = a ≡ align.Bytes → s.place % 8 ≡ 0

-- What was answered and where reading goes on is what reading gives. Nothing moves where it gives nothing.
abbrev pub Takes : {X : Type 0} → Option X → Spot → Spot → Option (X × Spot) → Type 0
Takes None old new read = (read ≡ None) × (new ≡ old)
Takes (Some x) old new read = read ≡ Some (x, new)

-- the bits are taken from the front, and reading goes on behind them
pub record Front (old : Spot) (text : List Bool) (new : Spot) : Type 0 where
  pub parts : rest old ≡ text ++ rest new
  pub bytes : new.bytes ≡ old.bytes
  pub place : new.place ≡ old.place + length text
