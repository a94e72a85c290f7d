-- Numbers in whole bytes, the least significant first.
use Rattle.std.proofs.Common.{◌≡◌, ℕ, zero, suc, ◌+◌, ◌*◌, ◌/◌, ◌%◌, ◌^◌, ◌<◌, ◌≤◌, Bool, ltb, List, [], ◌∷◌, ◌++◌, length, take, drop, Some, refl, sym, ap, ◌∙◌, subst, append_assoc, arith, inl, inr}
use Rattle.std.proofs.lemmas.List.{length-append, length-take, length-drop, take-append-drop, take_at, drop_at, drop-drop, drop_all, nil_from_length, append-nil}
use Rattle.std.proofs.lemmas.Nat.{shr_below}
use Rattle.std.proofs.lemmas.Bool.{ltb-false, le-ltb, cases_lt}
use Rattle.exi_bits.specs.declared.align.Align.{Align}
use Rattle.exi_bits.specs.declared.align.Align.TheVariants as align
use Rattle.exi_bits.specs.Bits.{Spot, IsAligned, IsBytes, Front, rest, left, moved, bits, number_bits, value_of, octets, le_bytes, le_value, number, octets_of, taken, number_at}
use Rattle.exi_bits.proofs.BitLaws.{length-bits, length-number_bits, value_of-number_bits, bits-take, bits-drop, part_fits, pow_up, le_value_below}
use Rattle.exi_bits.proofs.Spelled.{guard_some, length-rest, number_takes, number_again}

pub length-le_bytes : (n v : ℕ) → length (le_bytes n v) ≡ n
unfolding le_bytes
length-le_bytes zero v = refl
length-le_bytes (suc n) v = ap suc (length-le_bytes n (v / 256))

pub le_bytes_fits : (n v : ℕ) → IsBytes (le_bytes n v)
unfolding le_bytes
le_bytes_fits zero v i = omega arith
le_bytes_fits (suc n) v zero = omega arith
le_bytes_fits (suc n) v (suc i) = le_bytes_fits n (v / 256) i

pub le_value-le_bytes : (n v : ℕ) → v < 2 ^ (8 * n) → le_value (le_bytes n v) ≡ v
unfolding le_value le_bytes
le_value-le_bytes zero v lt = omega arith
le_value-le_bytes (suc n) v lt =
    let e : 8 * suc n ≡ 8 * n + 8 = omega arith in
    let below : v / 256 < 2 ^ (8 * n) = shr_below v (8 * n) 8 (subst (λ (k : ℕ). v < 2 ^ k) e lt) in
    let h : le_value (le_bytes n (v / 256)) ≡ v / 256 = le_value-le_bytes n (v / 256) below in
    omega arith

pub le_bytes-le_value : (bs : List ℕ) → IsBytes bs → le_bytes (length bs) (le_value bs) ≡ bs
unfolding le_value le_bytes
le_bytes-le_value [] fits = refl
le_bytes-le_value (b ∷ bs) fits =
    let lt : b < 256 = fits 0 in
    let low : (b + 256 * le_value bs) % 256 ≡ b = omega arith in
    let high : (b + 256 * le_value bs) / 256 ≡ le_value bs = omega arith in
    rw (low, high, le_bytes-le_value bs (λ i. fits (suc i))) refl

-- ---- bytes are told by their bits
pub octets_of-bits : (bs : List ℕ) → IsBytes bs → octets_of (length bs) (bits bs) ≡ bs
unfolding bits octets_of
octets_of-bits [] fits = refl
octets_of-bits (b ∷ bs) fits =
    let one : take 8 (number_bits 8 b ++ bits bs) ≡ number_bits 8 b = take_at (number_bits 8 b) (bits bs) 8 (length-number_bits 8 b) in
    let two : drop 8 (number_bits 8 b ++ bits bs) ≡ bits bs = drop_at (number_bits 8 b) (bits bs) 8 (length-number_bits 8 b) in
    rw (one, two, value_of-number_bits 8 b (fits 0), octets_of-bits bs (λ i. fits (suc i))) refl

pub same_bytes : (a b : List ℕ) → IsBytes a → IsBytes b → bits a ≡ bits b → a ≡ b
same_bytes a b fa fb e =
    let len : length a ≡ length b = omega (arith, length-bits a, length-bits b, ap length e) in
    sym (octets_of-bits a fa) ∙ rw (e, len) (octets_of-bits b fb)

-- ---- reading
bits-drop_any : (n : ℕ) (bs : List ℕ) → drop (8 * n) (bits bs) ≡ bits (drop n bs)
unfolding bits
bits-drop_any n bs =
    elim (cases_lt (length bs) n) [
      | inl past ↦ drop_all (8 * n) (bits bs) (omega (arith, length-bits bs)) ∙ sym (ap bits (drop_all n bs (omega arith)))
      | inr within ↦ bits-drop n bs within
    ]

rest_in_bytes : (s : Spot) → s.place % 8 ≡ 0 → rest s ≡ bits (drop (s.place / 8) s.bytes)
rest_in_bytes s whole =
    let e : s.place ≡ 8 * (s.place / 8) = omega arith in
    ap (λ (p : ℕ). drop p (bits s.bytes)) e ∙ bits-drop_any (s.place / 8) s.bytes

-- the bytes of a number at a whole byte, as bits
part_bits : (k : ℕ) (s : Spot) → s.place % 8 ≡ 0 → 8 * k ≤ left s → bits (take k (drop (s.place / 8) s.bytes)) ≡ take (8 * k) (rest s)
part_bits k s whole long =
    let part : List ℕ = drop (s.place / 8) s.bytes in
    sym (ap (λ (t : List Bool). take (8 * k) t) (rest_in_bytes s whole) ∙ bits-take k part (omega (arith, length-drop (s.place / 8) s.bytes)))

pub bytes_take : (n v : ℕ) (s t : Spot) → IsBytes s.bytes → s.place % 8 ≡ 0 → number_at n align.Bytes s ≡ Some (v, t) → Front s (bits (le_bytes (octets n) v)) t × (v < 2 ^ (8 * octets n))
unfolding number_at
bytes_take n v s t fits whole e =
    let k : ℕ = octets n in
    let part : List ℕ = take (octets n) (drop (s.place / 8) s.bytes) in
    let g = guard_some (ltb (left s) (8 * octets n)) (le_value (take (octets n) (drop (s.place / 8) s.bytes)), moved s (8 * octets n)) (v, t) e in
    let long : 8 * octets n ≤ left s = ltb-false (left s) (8 * octets n) g.0 in
    let v-is : le_value (take (octets n) (drop (s.place / 8) s.bytes)) ≡ v = ap (λ (p : ℕ × Spot). p.0) g.1 in
    let t-is : moved s (8 * octets n) ≡ t = ap (λ (p : ℕ × Spot). p.1) g.1 in
    let len : length (take (octets n) (drop (s.place / 8) s.bytes)) ≡ octets n = omega (arith, length-take (octets n) (drop (s.place / 8) s.bytes), length-drop (s.place / 8) s.bytes) in
    let pf : IsBytes (take (octets n) (drop (s.place / 8) s.bytes)) = part_fits (octets n) (s.place / 8) s.bytes fits in
    let back : le_bytes (octets n) v ≡ take (octets n) (drop (s.place / 8) s.bytes) =
    subst (λ (x : ℕ). le_bytes (octets n) x ≡ part) v-is (subst (λ (j : ℕ). le_bytes j (le_value part) ≡ part) len (le_bytes-le_value part pf)) in
    let text : bits (le_bytes (octets n) v) ≡ take (8 * octets n) (rest s) = ap bits back ∙ part_bits (octets n) s whole long in
    let behind : drop (8 * octets n) (rest s) ≡ drop (s.place + 8 * octets n) (bits s.bytes) = drop-drop (8 * octets n) s.place (bits s.bytes) in (
      subst (λ (u : Spot). Front s (bits (le_bytes (octets n) v)) u) t-is (record {
        parts = sym (ap (λ (x : List Bool). x ++ drop (s.place + 8 * octets n) (bits s.bytes)) text ∙ ap (λ (x : List Bool). take (8 * octets n) (rest s) ++ x) (sym behind) ∙ take-append-drop (8 * octets n) (rest s));
        bytes = refl;
        place = omega (arith, length-bits (le_bytes (octets n) v), length-le_bytes (octets n) v);
      }),
      subst (λ (x : ℕ). x < 2 ^ (8 * octets n)) v-is (subst (λ (j : ℕ). le_value part < 2 ^ (8 * j)) len (le_value_below part pf)),
    )

pub bytes_again : (n v : ℕ) (s : Spot) (more : List Bool) → IsBytes s.bytes → s.place % 8 ≡ 0 → v < 2 ^ (8 * octets n) → rest s ≡ bits (le_bytes (octets n) v) ++ more → number_at n align.Bytes s ≡ Some (v, moved s (8 * octets n))
unfolding number_at
bytes_again n v s more fits whole lt e =
    let spelled : List ℕ = le_bytes (octets n) v in
    let size : length (bits (le_bytes (octets n) v)) ≡ 8 * octets n = omega (arith, length-bits (le_bytes (octets n) v), length-le_bytes (octets n) v) in
    let long : 8 * octets n ≤ left s = omega (arith, length-rest s, ap length e, length-append (bits (le_bytes (octets n) v)) more) in
    let front : take (8 * octets n) (rest s) ≡ bits (le_bytes (octets n) v) = ap (λ (x : List Bool). take (8 * octets n) x) e ∙ take_at (bits (le_bytes (octets n) v)) more (8 * octets n) size in
    let same : take (octets n) (drop (s.place / 8) s.bytes) ≡ le_bytes (octets n) v =
    same_bytes _ spelled (part_fits (octets n) (s.place / 8) s.bytes fits) (le_bytes_fits (octets n) v) (part_bits (octets n) s whole long ∙ front) in
    rw (le-ltb (left s) (8 * octets n) long, same, le_value-le_bytes (octets n) v lt) refl

-- ---- in both alignments
pub number_spelled : (n v : ℕ) (a : Align) (s t : Spot) → IsBytes s.bytes → IsAligned a s → number_at n a s ≡ Some (v, t) → Front s (number n a v) t × (v < 2 ^ taken n a)
number_spelled n v align.Bits s t fits whole e = number_takes n v s t e
number_spelled n v align.Bytes s t fits whole e = bytes_take n v s t fits (whole refl) e

pub number_read : (n v : ℕ) (a : Align) (s : Spot) (more : List Bool) → IsBytes s.bytes → IsAligned a s → v < 2 ^ taken n a → rest s ≡ number n a v ++ more → number_at n a s ≡ Some (v, moved s (taken n a))
number_read n v align.Bits s more fits whole lt e = number_again n v s more lt e
number_read n v align.Bytes s more fits whole lt e = bytes_again n v s more fits (whole refl) lt e

pub length-number : (n v : ℕ) (a : Align) → length (number n a v) ≡ taken n a
length-number n v align.Bits = length-number_bits n v
length-number n v align.Bytes = omega (arith, length-bits (le_bytes (octets n) v), length-le_bytes (octets n) v)

number_same : (n v w : ℕ) (a : Align) → v < 2 ^ taken n a → w < 2 ^ taken n a → number n a v ≡ number n a w → v ≡ w
number_same n v w align.Bits lv lw e = sym (value_of-number_bits n v lv) ∙ ap value_of e ∙ value_of-number_bits n w lw
number_same n v w align.Bytes lv lw e =
    let k : ℕ = octets n in
    let h : le_bytes (octets n) v ≡ le_bytes (octets n) w = same_bytes (le_bytes (octets n) v) (le_bytes (octets n) w) (le_bytes_fits (octets n) v) (le_bytes_fits (octets n) w) e in
    sym (le_value-le_bytes (octets n) v lv) ∙ ap le_value h ∙ le_value-le_bytes (octets n) w lw

pub number_no_prefix : (n v w : ℕ) (a : Align) (more : List Bool) → v < 2 ^ taken n a → w < 2 ^ taken n a → number n a v ≡ number n a w ++ more → (v ≡ w) × (more ≡ [])
number_no_prefix n v w a more lv lw e =
    let none : more ≡ [] = nil_from_length more (omega (arith, ap length e, length-append (number n a w) more, length-number n v a, length-number n w a)) in (
      number_same n v w a lv lw (e ∙ ap (λ (t : List Bool). number n a w ++ t) none ∙ append-nil (number n a w)),
      none,
    )

-- what stands behind some bits
pub rest_behind : (s : Spot) (before text more : List Bool) → bits s.bytes ≡ before ++ text ++ more → s.place ≡ length before → rest s ≡ text ++ more
rest_behind s before text more e p =
    ap (λ (t : List Bool). drop s.place t) (e ∙ append_assoc before text more) ∙ drop_at before (text ++ more) s.place (sym p)

pub number_read_back : (n v : ℕ) (a : Align) (s : Spot) (before more : List Bool) → IsBytes s.bytes → IsAligned a s → v < 2 ^ n → bits s.bytes ≡ before ++ number n a v ++ more → s.place ≡ length before → number_at n a s ≡ Some (v, moved s (taken n a))
number_read_back n v a s before more fits whole lt e p = number_read n v a s more fits whole (wider n v a lt) (rest_behind s before (number n a v) more e p)
  where
    wider : (n v : ℕ) (a : Align) → v < 2 ^ n → v < 2 ^ taken n a
    wider n v align.Bits lt = lt
    wider n v align.Bytes lt = let p : 2 ^ n ≤ 2 ^ (8 * octets n) = pow_up n (8 * octets n) (omega arith) in omega arith
