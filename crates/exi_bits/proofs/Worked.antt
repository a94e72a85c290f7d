-- The definitions on small values.
use Rattle.std.proofs.Common.{◌≡◌, ℕ, ◌-◌, ◌^◌, ◌++◌, ◌∷◌, [], List, true, false, replicate, Some, Ok, refl}
use Rattle.exi_bits.specs.declared.align.Align.TheVariants as align
use Rattle.exi_bits.specs.declared.fault.Kind.TheVariants as kind
use Rattle.exi_bits.specs.Bits.{Spot, bits, le_bytes, le_value, number, number_at, number_bits, value_of}
use Rattle.exi_bits.specs.Unsigned.{fault_at, groups, groups_at, narrow_groups_at, shortest, unsigned_at}

abbrev at_head : List ℕ → Spot
at_head bytes = record { bytes = bytes; place = 0 }

abbrev moved_to : List ℕ → ℕ → Spot
moved_to bytes place = record { bytes = bytes; place = place }

-- 80 00 is 0, AC 02 is 300
padded_zero : unsigned_at (at_head (0x80 ∷ 0x00 ∷ [])) ≡ Ok (0, moved_to (0x80 ∷ 0x00 ∷ []) 16)
unfolding unsigned_at narrow_groups_at groups_at number_at value_of bits number_bits
padded_zero = refl

three_hundred : unsigned_at (at_head (0xAC ∷ 0x02 ∷ [])) ≡ Ok (300, moved_to (0xAC ∷ 0x02 ∷ []) 16)
unfolding unsigned_at narrow_groups_at groups_at number_at value_of bits number_bits
three_hundred = refl

-- AC alone is short
cut_off : unsigned_at (at_head (0xAC ∷ [])) ≡ fault_at kind.Short (at_head (0xAC ∷ []))
unfolding unsigned_at narrow_groups_at groups_at number_at value_of bits number_bits
cut_off = refl

-- 18 bytes FF and 03 are the greatest number, 18 bytes 80 and 04 are too wide
greatest : unsigned_at (at_head (replicate 18 0xFF ++ 0x03 ∷ [])) ≡ Ok (2 ^ 128 - 1, moved_to (replicate 18 0xFF ++ 0x03 ∷ []) 152)
unfolding unsigned_at narrow_groups_at groups_at number_at value_of bits number_bits
greatest = refl

too_wide : unsigned_at (at_head (replicate 18 0x80 ++ 0x04 ∷ [])) ≡ fault_at kind.TooWide (at_head (replicate 18 0x80 ++ 0x04 ∷ []))
unfolding unsigned_at narrow_groups_at groups_at number_at value_of bits number_bits
too_wide = refl

-- 300 is written AC 02, and 0 is written 00
written_three_hundred : shortest 300 ≡ 0xAC ∷ 0x02 ∷ []
unfolding groups
written_three_hundred = refl

written_zero : shortest 0 ≡ 0x00 ∷ []
unfolding groups
written_zero = refl

-- a number of no bits takes none
no_bits : number_at 0 align.Bits (at_head []) ≡ Some (0, at_head [])
unfolding number_at value_of bits
no_bits = refl

-- in whole bytes a number of nine bits takes two, the least significant first
nine_bits : number_at 9 align.Bytes (at_head (0x2C ∷ 0x01 ∷ [])) ≡ Some (300, moved_to (0x2C ∷ 0x01 ∷ []) 16)
unfolding number_at le_value bits
nine_bits = refl

nine_bits_written : number 9 align.Bytes 300 ≡ bits (0x2C ∷ 0x01 ∷ [])
unfolding le_bytes bits number_bits
nine_bits_written = refl

-- five in three bits
three_bits : number 3 align.Bits 5 ≡ true ∷ false ∷ true ∷ []
unfolding number_bits
three_bits = refl
