-- Numbers below a count.
use Rattle.std.proofs.Common.{◌≡◌, ℕ, ◌*◌, ◌^◌, ◌<◌, ◌≤◌, Bool, true, false, cond, ltb, List, ◌++◌, Option, Some, None, Result, Ok, add-zero, refl, ap, subst, arith}
use Rattle.std.proofs.lemmas.Bool.{lt-ltb, ltb-true, le-ltb}
use Rattle.exi_bits.specs.declared.align.Align.{Align}
use Rattle.exi_bits.specs.declared.align.Align.TheVariants as align
use Rattle.exi_bits.specs.declared.fault.Fault.{Fault}
use Rattle.exi_bits.specs.declared.fault.Kind.{Kind}
use Rattle.exi_bits.specs.Bits.{Spot, IsAligned, IsBytes, Front, rest, left, moved, number, octets, taken, number_at, value_of, le_value}
use Rattle.exi_bits.specs.Unsigned.{◌>>=◌, at_spot, below_at, fault_at, field_at, needed}
use Rattle.exi_bits.specs.Widths.{width_for, width_from}
use Rattle.exi_bits.proofs.BitLaws.{pow_up}
use Rattle.exi_bits.proofs.InBytes.{number_spelled, number_read}
use Rattle.exi_bits.proofs.WidthLaws.{width_least}

-- one thing takes no bits
pub below_one : (count : ℕ) (a : Align) (k : Kind) (s : Spot) → count ≡ 1 → below_at count a k s ≡ Ok (0, s)
unfolding below_at field_at number_at width_from value_of le_value
below_one count align.Bits k s one = rw (one, le-ltb (left s) 0 (omega arith)) (ap (λ (place : ℕ). Ok (0, record { bytes = s.bytes; place = place })) (add-zero s.place))
below_one count align.Bytes k s one = rw (one, le-ltb (left s) 0 (omega arith)) (ap (λ (place : ℕ). Ok (0, record { bytes = s.bytes; place = place })) (add-zero s.place))

-- and nothing is below 0
pub below_none : (count : ℕ) (a : Align) (k : Kind) (s : Spot) → count ≡ 0 → below_at count a k s ≡ fault_at k s
unfolding below_at field_at number_at width_from value_of le_value
below_none count align.Bits k s none = rw (none, le-ltb (left s) 0 (omega arith)) refl
below_none count align.Bytes k s none = rw (none, le-ltb (left s) 0 (omega arith)) refl

abbrev given : ℕ × Spot → Result (ℕ × Spot) Fault
given p = Ok p

guarded : (b : Bool) (x y : ℕ × Spot) (k : Kind) (s : Spot) → cond b (given x) (fault_at k s) ≡ given y → (b ≡ true) × (x ≡ y)
guarded true x y k s e = (refl, cc)
guarded false x y k s e = absurd cc

chosen : (read : Option (ℕ × Spot)) (count : ℕ) (k : Kind) (s : Spot) (p : ℕ × Spot) → (at_spot s (needed read) >>= λ found. cond (ltb found.0 count) (Ok found) (fault_at k s)) ≡ given p → (read ≡ Some p) × (p.0 < count)
chosen (Some x) count k s p e =
    let g = guarded (ltb x.0 count) x p k s e in (
      ap (λ (y : ℕ × Spot). Some y) g.1,
      subst (λ (y : ℕ × Spot). y.0 < count) g.1 (ltb-true x.0 count g.0),
    )
chosen None count k s p e = absurd cc

-- what is read is spelled so
pub below_spelled : (count v : ℕ) (a : Align) (k : Kind) (s t : Spot) → IsBytes s.bytes → IsAligned a s → below_at count a k s ≡ Ok (v, t) → Front s (number (width_for count) a v) t × (v < count)
unfolding below_at field_at
below_spelled count v a k s t fits al e =
    let c = chosen (number_at (width_for count) a s) count k s (v, t) e in
    ((number_spelled (width_for count) v a s t fits al c.0).0, c.1)

-- a number of so many bits fits the bytes that it takes
pub taken_wide : (n v : ℕ) (a : Align) → v < 2 ^ n → v < 2 ^ taken n a
taken_wide n v align.Bits lt = lt
taken_wide n v align.Bytes lt = let p : 2 ^ n ≤ 2 ^ (8 * octets n) = pow_up n (8 * octets n) (omega arith) in omega arith

-- what is below the count and spelled so is read
pub below_read : (count v : ℕ) (a : Align) (k : Kind) (s : Spot) (more : List Bool) → IsBytes s.bytes → IsAligned a s → v < count → rest s ≡ number (width_for count) a v ++ more → below_at count a k s ≡ Ok (v, moved s (taken (width_for count) a))
unfolding below_at field_at
below_read count v a k s more fits al lt e =
    let holds : count ≤ 2 ^ width_for count = (width_least count).0 in
    let small : v < 2 ^ width_for count = omega arith in
    rw (number_read (width_for count) v a s more fits al (taken_wide (width_for count) v a small) e, lt-ltb v count lt) refl
