-- Reading groups of seven bits one after another.
use Rattle.std.proofs.Common.{◌≡◌, ℕ, suc, ◌+◌, ◌*◌, ◌-◌, ◌%◌, ◌^◌, ◌<◌, ◌≤◌, List, Some, None, Result, Ok, Err, refl, sym, ap, ◌∙◌, subst, arith, inl, inr}
use Rattle.std.proofs.lemmas.Nat.{pow-add}
use Rattle.std.proofs.lemmas.Bool.{lt-ltb, le-ltb, cases_lt}
use Rattle.exi_bits.specs.declared.align.Align.TheVariants as align
use Rattle.exi_bits.specs.declared.fault.Kind.{Kind}
use Rattle.exi_bits.specs.declared.fault.Kind.TheVariants as kind
use Rattle.exi_bits.specs.Bits.{Spot, at_bit, number_at}
use Rattle.exi_bits.specs.Unsigned.{◌>>=◌, at_spot, behind_first, fault_at, groups_at, narrow, narrow_groups_at, unsigned_at}

-- what was read before, and what is still read
abbrev pub with_low : ℕ → ℕ → Result (ℕ × Spot) Kind → Result (ℕ × Spot) Kind
with_low low shift read = read >>= λ x. Ok (low + 2 ^ shift * x.0, x.1)

-- what the next octet says of the groups from it on
pub short_at : (most : ℕ) (s : Spot) → number_at 8 align.Bits s ≡ None → groups_at (suc most) s ≡ Err kind.Short
unfolding groups_at
short_at most s h = rw h refl

pub last_at : (most o : ℕ) (s t : Spot) → number_at 8 align.Bits s ≡ Some (o, t) → o < 128 → groups_at (suc most) s ≡ Ok (o, t)
unfolding groups_at
last_at most o s t h lt = rw (h, lt-ltb o 128 lt) refl

pub more_at : (most o : ℕ) (s t : Spot) → number_at 8 align.Bits s ≡ Some (o, t) → 128 ≤ o → groups_at (suc most) s ≡ (groups_at most t >>= λ more. Ok (o - 128 + 128 * more.0, more.1))
unfolding groups_at
more_at most o s t h le = rw (h, le-ltb o 128 le) refl

-- ---- one turn of the loop
pub ends_short : (g v w : ℕ) (s : Spot) (total : Result (ℕ × Spot) Kind) → g < 19 → number_at 8 align.Bits s ≡ None → with_low v w (groups_at (19 - g) s) ≡ total → total ≡ Err kind.Short
ends_short g v w s total lt h so_far =
    let k : 19 - g ≡ suc (18 - g) = omega arith in
    sym so_far ∙ rw (k, short_at (18 - g) s h) refl

pub ends_ok : (g v w o : ℕ) (s t : Spot) (total : Result (ℕ × Spot) Kind) → g < 19 → number_at 8 align.Bits s ≡ Some (o, t) → o < 128 → with_low v w (groups_at (19 - g) s) ≡ total → total ≡ Ok (v + 2 ^ w * o, t)
ends_ok g v w o s t total lt h small so_far =
    let k : 19 - g ≡ suc (18 - g) = omega arith in
    sym so_far ∙ rw (k, last_at (18 - g) o s t h small) refl

spread : (v p a x : ℕ) → v + p * (a + 128 * x) ≡ v + p * a + p * 128 * x
spread v p a x = grind arith

regroup : (v w o : ℕ) (read : Result (ℕ × Spot) Kind) → 128 ≤ o → o < 256
    → with_low v w (read >>= λ more. Ok (o - 128 + 128 * more.0, more.1)) ≡ with_low (v + 2 ^ w * (o % 128)) (w + 7) read
regroup v w o (Err k) le lt = refl
regroup v w o (Ok x) le lt =
    let e : o % 128 ≡ o - 128 = omega arith in
    let p : 2 ^ (w + 7) ≡ 2 ^ w * 128 = pow-add 2 w 7 in
    ap (λ (n : ℕ). Ok (n, x.1)) (rw (e, p) (spread v (2 ^ w) (o - 128) x.0))

pub goes_on : (g v o : ℕ) (s t : Spot) (total : Result (ℕ × Spot) Kind) → g < 19 → number_at 8 align.Bits s ≡ Some (o, t) → 128 ≤ o → o < 256
    → with_low v (7 * g) (groups_at (19 - g) s) ≡ total → with_low (v + 2 ^ (7 * g) * (o % 128)) (7 * (g + 1)) (groups_at (19 - (g + 1)) t) ≡ total
goes_on g v o s t total lt h le below so_far =
    let k : 19 - g ≡ suc (18 - g) = omega arith in
    let j : 19 - (g + 1) ≡ 18 - g = omega arith in
    let w : 7 * (g + 1) ≡ 7 * g + 7 = omega arith in
    let one : with_low v (7 * g) (groups_at (19 - g) s) ≡ with_low (v + 2 ^ (7 * g) * (o % 128)) (7 * g + 7) (groups_at (18 - g) t) =
    rw (k, more_at (18 - g) o s t h le) (regroup v (7 * g) o (groups_at (18 - g) t) le below) in
    rw (w, j) (sym one ∙ so_far)

pub ends_wide : (g v w : ℕ) (s : Spot) (total : Result (ℕ × Spot) Kind) → 19 ≤ g → with_low v w (groups_at (19 - g) s) ≡ total → total ≡ Err kind.TooWide
unfolding groups_at
ends_wide g v w s total le so_far =
    let k : 19 - g ≡ 0 = omega arith in
    sym so_far ∙ rw k refl

-- ---- the number that is read has to stay below 2 ^ 128
pub narrow_err : (k : Kind) (total : Result (ℕ × Spot) Kind) → total ≡ Err k → (total >>= narrow) ≡ Err k
narrow_err k total e = rw e refl

narrow_ok : (n : ℕ) (t : Spot) (total : Result (ℕ × Spot) Kind) → total ≡ Ok (n, t) → n < 2 ^ 128 → (total >>= narrow) ≡ Ok (n, t)
narrow_ok n t total e lt = rw (e, lt-ltb n (2 ^ 128) lt) refl

-- the last group makes it too wide, whether another would follow or not
too_wide : (v o : ℕ) (s t : Spot) (total : Result (ℕ × Spot) Kind) → number_at 8 align.Bits s ≡ Some (o, t) → o < 256 → (v + 2 ^ (7 * 18) * (o % 128) < 2 ^ 128 → ⊥)
    → with_low v (7 * 18) (groups_at (19 - 18) s) ≡ total → (total >>= narrow) ≡ Err kind.TooWide
unfolding groups_at
too_wide v o s t total h below wide so_far =
    elim (cases_lt o 128) [
      | inl small ↦
          let e : total ≡ Ok (v + 2 ^ 126 * o, t) = ends_ok 18 v 126 o s t total (omega arith) h small so_far in
          let big : 2 ^ 128 ≤ v + 2 ^ 126 * o = omega arith in
          ap (λ (r : Result (ℕ × Spot) Kind). r >>= narrow) e ∙ rw (le-ltb (v + 2 ^ 126 * o) (2 ^ 128) big) refl
      | inr large ↦
          let e : total ≡ Err kind.TooWide = sym so_far ∙ rw (more_at 0 o s t h large) refl in
          ap (λ (r : Result (ℕ × Spot) Kind). r >>= narrow) e
    ]

pub too_wide_at : (g v o : ℕ) (s t : Spot) (total : Result (ℕ × Spot) Kind) → g ≡ 18 → number_at 8 align.Bits s ≡ Some (o, t) → o < 256 → (v + 2 ^ (7 * g) * (o % 128) < 2 ^ 128 → ⊥)
    → with_low v (7 * g) (groups_at (19 - g) s) ≡ total → (total >>= narrow) ≡ Err kind.TooWide
too_wide_at g v o s t total e h below = subst (λ (k : ℕ). (v + 2 ^ (7 * k) * (o % 128) < 2 ^ 128 → ⊥) → with_low v (7 * k) (groups_at (19 - k) s) ≡ total → (total >>= narrow) ≡ Err kind.TooWide) (sym e) (too_wide v o s t total h below)

pub last_group : (g v o n : ℕ) (s t : Spot) (total : Result (ℕ × Spot) Kind) → g < 19 → number_at 8 align.Bits s ≡ Some (o, t) → o < 128 → v + 2 ^ (7 * g) * (o % 128) < 2 ^ 128 → n ≡ v + 2 ^ (7 * g) * (o % 128)
    → with_low v (7 * g) (groups_at (19 - g) s) ≡ total → (total >>= narrow) ≡ Ok (n, t)
last_group g v o n s t total lt h small fits n-is so_far =
    let e : o % 128 ≡ o = omega arith in
    let k : v + 2 ^ (7 * g) * o < 2 ^ 128 = rw e at fits in
    rw (n-is, e) (narrow_ok (v + 2 ^ (7 * g) * o) t total (ends_ok g v (7 * g) o s t total lt h small so_far) k)

-- ---- behind a first octet
-- the groups from it on, however wide
abbrev pub with_first : ℕ → Spot → Result (ℕ × Spot) Kind
with_first first s = groups_at 18 s >>= λ more. Ok (first - 128 + 128 * more.0, more.1)

narrowed : (first : ℕ) (read : Result (ℕ × Spot) Kind) → (read >>= λ more. narrow (first - 128 + 128 * more.0, more.1)) ≡ ((read >>= λ more. Ok (first - 128 + 128 * more.0, more.1)) >>= narrow)
narrowed first (Ok x) = refl
narrowed first (Err k) = refl

pub behind_is : (first : ℕ) (s : Spot) → behind_first first s ≡ (with_first first s >>= narrow)
unfolding behind_first
behind_is first s = narrowed first (groups_at 18 s)

-- an integer of which no octet is there
pub no_octet : (s : Spot) → number_at 8 align.Bits s ≡ None → unsigned_at s ≡ fault_at kind.Short s
unfolding unsigned_at narrow_groups_at
no_octet s h = rw (short_at 18 s h) refl

-- an integer of one octet
pub one_octet : (o : ℕ) (s t : Spot) → number_at 8 align.Bits s ≡ Some (o, t) → o < 128 → unsigned_at s ≡ Ok (o, t)
unfolding unsigned_at narrow_groups_at
one_octet o s t h small = rw (last_at 18 o s t h small, lt-ltb o (2 ^ 128) (omega arith)) refl

-- an integer of more octets
pub more_octets : (o : ℕ) (s t : Spot) → number_at 8 align.Bits s ≡ Some (o, t) → 128 ≤ o → unsigned_at s ≡ at_spot s (behind_first o t)
unfolding unsigned_at narrow_groups_at
more_octets o s t h large = ap (λ (r : Result (ℕ × Spot) Kind). at_spot s (r >>= narrow)) (more_at 18 o s t h large) ∙ ap (at_spot s) (sym (behind_is o t))

-- back at the first bit
pub at_start : (s t : Spot) → t.bytes ≡ s.bytes → at_bit t s.place ≡ s
at_start s t e = ap (λ (bytes : List ℕ). record { bytes = bytes; place = s.place }) e
