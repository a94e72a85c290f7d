-- What is read is spelled so, and what is spelled so is read.
use Rattle.std.proofs.Common.{◌≡◌, ℕ, ◌+◌, ◌^◌, ◌<◌, ◌≤◌, Bool, true, false, cond, ltb, List, ◌++◌, length, take, drop, Option, Some, None, refl, sym, ap, ◌∙◌, subst, arith}
use Rattle.std.proofs.lemmas.List.{length-append, length-take, length-drop, take-append-drop, take_at, drop-drop}
use Rattle.std.proofs.lemmas.Bool.{ltb-false, le-ltb}
use Rattle.exi_bits.specs.declared.align.Align.TheVariants as align
use Rattle.exi_bits.specs.Bits.{Spot, rest, left, moved, bits, number_bits, value_of, number_at, Front}
use Rattle.exi_bits.proofs.BitLaws.{length-bits, length-number_bits, value_of_below, value_of-number_bits, number_bits-value_of}

abbrev pub some_pair : ℕ × Spot → Option (ℕ × Spot)
some_pair p = Some p

pub guard_some : (b : Bool) (x y : ℕ × Spot) → cond b None (Some x) ≡ some_pair y → (b ≡ false) × (x ≡ y)
guard_some true x y e = absurd cc
guard_some false x y e = (refl, cc)

pub length-rest : (s : Spot) → length (rest s) ≡ left s
length-rest s = omega (arith, length-drop s.place (bits s.bytes), length-bits s.bytes)

-- what is read is spelled so
pub number_takes : (n v : ℕ) (s t : Spot) → number_at n align.Bits s ≡ Some (v, t) → Front s (number_bits n v) t × (v < 2 ^ n)
unfolding number_at
number_takes n v s t e =
    let g = guard_some (ltb (left s) n) (value_of (take n (rest s)), moved s n) (v, t) e in
    let long : n ≤ left s = ltb-false (left s) n g.0 in
    let len : length (take n (rest s)) ≡ n = omega (arith, length-take n (rest s), length-rest s) in
    let v-is : value_of (take n (rest s)) ≡ v = ap (λ (p : ℕ × Spot). p.0) g.1 in
    let t-is : moved s n ≡ t = ap (λ (p : ℕ × Spot). p.1) g.1 in
    let back : number_bits n v ≡ take n (rest s) = subst (λ (k : ℕ). number_bits k v ≡ take n (rest s)) len (subst (λ (x : ℕ). number_bits (length (take n (rest s))) x ≡ take n (rest s)) v-is (number_bits-value_of (take n (rest s)))) in
    let behind : drop n (rest s) ≡ drop (s.place + n) (bits s.bytes) = drop-drop n s.place (bits s.bytes) in (
      subst (λ (u : Spot). Front s (number_bits n v) u) t-is (record {
        parts = sym (ap (λ (x : List Bool). x ++ drop (s.place + n) (bits s.bytes)) back ∙ ap (λ (x : List Bool). take n (rest s) ++ x) (sym behind) ∙ take-append-drop n (rest s));
        bytes = refl;
        place = omega (arith, length-number_bits n v);
      }),
      subst (λ (x : ℕ). x < 2 ^ n) v-is (subst (λ (k : ℕ). value_of (take n (rest s)) < 2 ^ k) len (value_of_below (take n (rest s)))),
    )

-- what is spelled so is read
pub number_again : (n v : ℕ) (s : Spot) (more : List Bool) → v < 2 ^ n → rest s ≡ number_bits n v ++ more → number_at n align.Bits s ≡ Some (v, moved s n)
unfolding number_at
number_again n v s more lt e =
    let long : n ≤ left s = omega (arith, length-rest s, ap length e, length-append (number_bits n v) more, length-number_bits n v) in
    let front : take n (rest s) ≡ number_bits n v = ap (λ (x : List Bool). take n x) e ∙ take_at (number_bits n v) more n (length-number_bits n v) in
    let val : value_of (take n (rest s)) ≡ v = ap value_of front ∙ value_of-number_bits n v lt in
    rw (le-ltb (left s) n long, val) refl
