-- The least width of a count.
use Rattle.std.proofs.Common.{◌≡◌, ℕ, zero, suc, ◌+◌, ◌*◌, ◌-◌, ◌^◌, ◌<◌, ◌≤◌, inl, inr, add-zero, sym, ◌∙◌, subst, arith}
use Rattle.std.proofs.lemmas.Bool.{le-leb, lt-leb, cases_lt}
use Rattle.std.proofs.Common.{lit<}
use Rattle.std.proofs.Math.Nat.{pow-succ'}
use Rattle.std.proofs.lemmas.Nat.{leading_top, pow_pos}
use Rattle.std.specs.Int.Count.{count_leading_zeros}
use Rattle.exi_bits.proofs.BitLaws.{pow_up}
use Rattle.exi_bits.specs.Widths.{width_from, width_for}

-- the number that holds the count, and before which none does, is found
pub width_found : (tries n w count : ℕ) → ((k : ℕ) → k < w → 2 ^ k < count) → count ≤ 2 ^ w → n ≤ w → w ≤ n + tries → width_from tries n count ≡ w
unfolding width_from
width_found zero n w count below holds from to = omega arith
width_found (suc tries) n w count below holds from to =
    elim (cases_lt n w) [
      | inl less ↦ rw (lt-leb count (2 ^ n) (below n less)) (width_found tries (n + 1) w count below holds (omega arith) (omega arith))
      | inr not_less ↦
          let e : n ≡ w = omega arith in
          let h : count ≤ 2 ^ n = rw e holds in
          rw (le-leb count (2 ^ n) h) e
    ]

pub width_few : (count : ℕ) → count ≤ 1 → 0 ≡ width_for count
width_few count few = sym (width_found count 0 0 count (λ k less. absurd (omega arith)) (omega arith) (omega arith) (omega arith))

below_power : (j k count : ℕ) → k ≤ j → 2 ^ j < count → 2 ^ k < count
below_power j k count le less = let p = pow_up k j le in omega arith

pub below_self : (n : ℕ) → n < 2 ^ n
below_self zero = lit< tt
below_self (suc n) = let h = below_self n in rw pow-succ' (omega arith)

-- the zeros in front of the greatest value leave the width
pub width_many : (count : ℕ) → 1 < count → count - 1 < 2 ^ 64 → 64 - count_leading_zeros 64 (count - 1) ≡ width_for count
width_many count many fits =
    let t = leading_top 64 (count - 1) (omega arith) fits in
    let w : 64 - count_leading_zeros 64 (count - 1) ≡ suc t.0 = omega (arith, t.1) in
    let short : suc t.0 ≤ count = omega (arith, t.2, below_self t.0) in
    w ∙ sym (width_found count 0 (suc t.0) count (λ k less. below_power t.0 k count (omega arith) (omega (arith, t.2))) (omega (arith, t.3)) (omega arith) (omega arith))

-- the same in twice the count and none less, also for one thing
pub width_twice : (count : ℕ) → 0 < count → 2 * count - 1 < 2 ^ 64 → 63 - count_leading_zeros 64 (2 * count - 1) ≡ width_for count
width_twice count some fits =
    let t = leading_top 64 (2 * count - 1) (omega arith) fits in
    let w : 63 - count_leading_zeros 64 (2 * count - 1) ≡ t.0 = omega (arith, t.1) in
    let twice : 2 ^ suc t.0 ≡ 2 * 2 ^ t.0 = pow-succ' 2 t.0 in
    let holds : count ≤ 2 ^ t.0 = omega (arith, t.2, t.3) in
    w ∙ sym (width_found count 0 t.0 count (λ k less. below_twice k t.0 count less (omega (arith, t.2))) holds (omega arith) (short t.0 count (omega (arith, t.2))))
  where
    below_twice : (k w count : ℕ) → k < w → 2 ^ w ≤ 2 * count - 1 → 2 ^ k < count
    below_twice k w count less le = let p : 2 ^ suc k ≤ 2 ^ w = pow_up (suc k) w (omega arith) in let e : 2 ^ suc k ≡ 2 * 2 ^ k = pow-succ' 2 k in let some : 0 < 2 ^ k = pow_pos k in omega arith

    short : (w count : ℕ) → 2 ^ w ≤ 2 * count - 1 → w ≤ 0 + count
    short zero count le = omega arith
    short (suc w) count le = let h = below_self w in let e : 2 ^ suc w ≡ 2 * 2 ^ w = pow-succ' 2 w in omega arith

-- of the numbers from this one on the least that holds the count is found, if one that is tried does
least_from : (tries n count : ℕ) → ((k : ℕ) → k < n → 2 ^ k < count) → count ≤ 2 ^ (n + tries) → (count ≤ 2 ^ width_from tries n count) × ((k : ℕ) → k < width_from tries n count → 2 ^ k < count)
unfolding width_from
least_from zero n count below holds = (subst (λ (k : ℕ). count ≤ 2 ^ k) (add-zero n) holds, below)
least_from (suc tries) n count below holds =
    elim (cases_lt (2 ^ n) count) [
      | inl less ↦
          let e : n + suc tries ≡ n + 1 + tries = omega arith in
          rw (lt-leb count (2 ^ n) less) (least_from tries (n + 1) count (further n count below less) (subst (λ (k : ℕ). count ≤ 2 ^ k) e holds))
      | inr enough ↦ rw (le-leb count (2 ^ n) enough) (enough, below)
    ]
  where
    further : (n count : ℕ) → ((k : ℕ) → k < n → 2 ^ k < count) → 2 ^ n < count → (k : ℕ) → k < n + 1 → 2 ^ k < count
    further n count below less k lt = elim (cases_lt k n) [
      | inl before ↦ below k before
      | inr not_before ↦ let e : k ≡ n = omega arith in rw e less
    ]

pub width_least : (count : ℕ) → (count ≤ 2 ^ width_for count) × ((n : ℕ) → n < width_for count → 2 ^ n < count)
width_least count =
    let h = below_self count in
    let e : count ≡ 0 + count = omega arith in
    least_from count 0 count (λ k lt. absurd (omega arith)) (subst (λ (k : ℕ). count ≤ 2 ^ k) e (omega arith))
