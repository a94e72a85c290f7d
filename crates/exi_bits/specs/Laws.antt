-- The laws between what is spelled and what is read.
use Rattle.std.specs.Prelude.{◌≡◌, Some, Ok, Bool, ℕ, ◌*◌, ◌^◌, ◌<◌, ◌≤◌, List, [], ◌++◌, length}
use Rattle.exi_bits.specs.declared.align.Align.{Align}
use Rattle.exi_bits.specs.declared.fault.Kind.{Kind}
use Rattle.exi_bits.specs.declared.fault.Kind.TheVariants as kind
use Rattle.exi_bits.specs.Bits.{Spot, Front, IsAligned, IsBytes, bits, moved, number, number_at, rest, taken}
use Rattle.exi_bits.specs.Unsigned.{IsCut, IsUnsigned, IsWide, below_at, fault_at, shortest, unsigned_at}
use Rattle.exi_bits.specs.Widths.{width_for}

-- ---- n-bit numbers
-- what is read is spelled so
abbrev pub NumberIsSpelled : Type 0
NumberIsSpelled = (n v : ℕ) (a : Align) (s t : Spot) → IsBytes s.bytes → IsAligned a s → number_at n a s ≡ Some (v, t) → Front s (number n a v) t × (v < 2 ^ taken n a)

-- what is spelled so is read, whatever follows
abbrev pub NumberIsRead : Type 0
NumberIsRead = (n v : ℕ) (a : Align) (s : Spot) (more : List Bool) → IsBytes s.bytes → IsAligned a s → v < 2 ^ taken n a → rest s ≡ number n a v ++ more → number_at n a s ≡ Some (v, moved s (taken n a))

-- no spelling of a number of so many bits is a proper prefix of another, and each spells one number
abbrev pub NumberIsNoPrefix : Type 0
NumberIsNoPrefix = (n v w : ℕ) (a : Align) (more : List Bool) → v < 2 ^ taken n a → w < 2 ^ taken n a → number n a v ≡ number n a w ++ more → (v ≡ w) × (more ≡ [])

-- what was added behind some bits is read there, whatever follows
abbrev pub NumberIsReadBack : Type 0
NumberIsReadBack = (n v : ℕ) (a : Align) (s : Spot) (before more : List Bool) → IsBytes s.bytes → IsAligned a s → v < 2 ^ n → bits s.bytes ≡ before ++ number n a v ++ more → s.place ≡ length before → number_at n a s ≡ Some (v, moved s (taken n a))

-- ---- numbers below a count
-- what is read is spelled so, and is below the count
abbrev pub BelowIsSpelled : Type 0
BelowIsSpelled = (count v : ℕ) (a : Align) (k : Kind) (s t : Spot) → IsBytes s.bytes → IsAligned a s → below_at count a k s ≡ Ok (v, t) → Front s (number (width_for count) a v) t × (v < count)

-- what is below the count and spelled so is read, whatever follows
abbrev pub BelowIsRead : Type 0
BelowIsRead = (count v : ℕ) (a : Align) (k : Kind) (s : Spot) (more : List Bool) → IsBytes s.bytes → IsAligned a s → v < count → rest s ≡ number (width_for count) a v ++ more → below_at count a k s ≡ Ok (v, moved s (taken (width_for count) a))

-- the width is the least n with 2 ^ n at least the count
abbrev pub WidthIsLeast : Type 0
WidthIsLeast = (count : ℕ) → (count ≤ 2 ^ width_for count) × ((n : ℕ) → n < width_for count → 2 ^ n < count)

-- ---- Unsigned Integers
-- what is read is spelled so
abbrev pub UnsignedIsSpelled : Type 0
UnsignedIsSpelled = (v : ℕ) (s t : Spot) → unsigned_at s ≡ Ok (v, t) → (octets : List ℕ) × IsUnsigned octets v × Front s (bits octets) t

-- what is spelled so is read, whatever follows
abbrev pub UnsignedIsRead : Type 0
UnsignedIsRead = (v : ℕ) (octets : List ℕ) (s : Spot) (more : List Bool) → IsUnsigned octets v → rest s ≡ bits octets ++ more → unsigned_at s ≡ Ok (v, moved s (8 * length octets))

-- no spelling is a proper prefix of another, and each spells one number
abbrev pub UnsignedIsNoPrefix : Type 0
UnsignedIsNoPrefix = (v w : ℕ) (octets others : List ℕ) (more : List Bool) → IsUnsigned octets v → IsUnsigned others w → bits octets ≡ bits others ++ more → (v ≡ w) × (octets ≡ others) × (more ≡ [])

-- each number below 2 ^ 128 has its shortest spelling, and none is shorter
abbrev pub ShortestIsSpelled : Type 0
ShortestIsSpelled = (v : ℕ) → v < 2 ^ 128 → IsUnsigned (shortest v) v

abbrev pub NoneIsShorter : Type 0
NoneIsShorter = (v : ℕ) (octets : List ℕ) → IsUnsigned octets v → length (shortest v) ≤ length octets

-- what was added behind some bits is read there, whatever follows
abbrev pub UnsignedIsReadBack : Type 0
UnsignedIsReadBack = (v : ℕ) (s : Spot) (before more : List Bool) → v < 2 ^ 128 → bits s.bytes ≡ before ++ bits (shortest v) ++ more → s.place ≡ length before → unsigned_at s ≡ Ok (v, moved s (8 * length (shortest v)))

-- it is short exactly where the bits end before the number does
abbrev pub ShortIsCut : Type 0
ShortIsCut = (s : Spot) → (unsigned_at s ≡ fault_at kind.Short s → IsCut (rest s)) × (IsCut (rest s) → unsigned_at s ≡ fault_at kind.Short s)

-- it is too wide exactly where the 19th octet makes it so
abbrev pub TooWideIsWide : Type 0
TooWideIsWide = (s : Spot) → (unsigned_at s ≡ fault_at kind.TooWide s → IsWide (rest s)) × (IsWide (rest s) → unsigned_at s ≡ fault_at kind.TooWide s)
