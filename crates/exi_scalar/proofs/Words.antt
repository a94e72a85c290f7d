-- Unsigned Integers of at most three octets that stand in a word.
use Rattle.std.proofs.Common.{◌≡◌, ℕ, ◌+◌, ◌*◌, ◌-◌, ◌/◌, ◌%◌, ◌^◌, ◌<◌, ◌≤◌, ltb, Bool, List, length, take, drop, Some, Ok, refl, sym, ap, ◌∙◌, arith}
use Rattle.std.proofs.lemmas.List.{length-take, drop-drop, drop-take, take-take}
use Rattle.std.proofs.lemmas.Bool.{le-ltb, lt-ltb, ltb-false}
use Rattle.exi_bits.specs.declared.align.Align.TheVariants as align
use Rattle.exi_bits.specs.Bits.{Spot, at_bit, bits, left, moved, number_at, rest, value_of}
use Rattle.exi_bits.specs.Unsigned.{behind_first, unsigned_at}
use Rattle.exi_bits.proofs.BitLaws.{middle_of}
use Rattle.exi_bits.proofs.Groups.{last_at, more_at, more_octets, one_octet}
use Rattle.exi_bits.proofs.Spelled.{guard_some, length-rest}

-- an octet in a word of 24 bits, with r bits behind it
octet : (r w p : ℕ) (s t : Spot) (a : ℕ) → number_at 24 align.Bits s ≡ Some (w, t) → 24 ≡ a + 8 + r → p ≡ s.place + a → number_at 8 align.Bits (at_bit s p) ≡ Some (w / 2 ^ r % 2 ^ 8, at_bit s (p + 8))
unfolding number_at
octet r w p s t a e size place =
    let g = guard_some (ltb (left s) 24) (value_of (take 24 (rest s)), moved s 24) (w, t) e in
    let long : 24 ≤ left s = ltb-false (left s) 24 g.0 in
    let is : value_of (take 24 (rest s)) ≡ w = ap (λ (q : ℕ × Spot). q.0) g.1 in
    let len : a + 8 + r ≡ length (take 24 (rest s)) = omega (arith, length-take 24 (rest s), length-rest s) in
    let behind : drop p (bits s.bytes) ≡ drop a (rest s) = ap (λ (q : ℕ). drop q (bits s.bytes)) place ∙ sym (drop-drop a s.place (bits s.bytes)) in
    let more : 24 ≡ a + (8 + r) = omega arith in
    let cut : take 8 (drop a (take 24 (rest s))) ≡ take 8 (drop a (rest s)) =
    ap (λ (q : ℕ). take 8 (drop a (take q (rest s)))) more ∙ ap (λ (x : List Bool). take 8 x) (drop-take a (8 + r) (rest s)) ∙ take-take 8 (8 + r) (drop a (rest s)) (omega arith) in
    let value : value_of (take 8 (drop p (bits s.bytes))) ≡ w / 2 ^ r % 2 ^ 8 =
    ap (λ (x : List Bool). value_of (take 8 x)) behind ∙ sym (ap value_of cut) ∙ sym (middle_of (take 24 (rest s)) a 8 r len) ∙ ap (λ (x : ℕ). x / 2 ^ r % 2 ^ 8) is in
    rw (le-ltb (left (at_bit s p)) 8 (omega arith), value) refl

abbrev first : ℕ → ℕ
first w = w / 65536 % 256

abbrev second : ℕ → ℕ
second w = w / 256 % 256

abbrev third : ℕ → ℕ
third w = w % 256

first_octet : (w : ℕ) (s t : Spot) → number_at 24 align.Bits s ≡ Some (w, t) → number_at 8 align.Bits s ≡ Some (first w, at_bit s (s.place + 8))
first_octet w s t e = octet 16 w s.place s t 0 e (omega arith) (omega arith)

second_octet : (w : ℕ) (s t : Spot) → number_at 24 align.Bits s ≡ Some (w, t) → number_at 8 align.Bits (at_bit s (s.place + 8)) ≡ Some (second w, at_bit s (s.place + 8 + 8))
second_octet w s t e = octet 8 w (s.place + 8) s t 8 e (omega arith) refl

third_octet : (w : ℕ) (s t : Spot) → number_at 24 align.Bits s ≡ Some (w, t) → number_at 8 align.Bits (at_bit s (s.place + 8 + 8)) ≡ Some (third w, at_bit s (s.place + 8 + 8 + 8))
third_octet w s t e = let same : w / 2 ^ 0 % 2 ^ 8 ≡ third w = omega arith in rw (← same) (octet 0 w (s.place + 8 + 8) s t 16 e (omega arith) (omega arith))

pub one_is : (w p : ℕ) (s t : Spot) → number_at 24 align.Bits s ≡ Some (w, t) → first w < 128 → p ≡ s.place + 8 → unsigned_at s ≡ Ok (first w, at_bit s p)
one_is w p s t e small place = rw (place) (one_octet (first w) s (at_bit s (s.place + 8)) (first_octet w s t e) small)

pub two_are : (w p : ℕ) (s t : Spot) → number_at 24 align.Bits s ≡ Some (w, t) → 128 ≤ first w → second w < 128 → p ≡ s.place + 16 → unsigned_at s ≡ Ok (first w - 128 + 128 * second w, at_bit s p)
unfolding behind_first
two_are w p s t e large small place =
    let end : s.place + 8 + 8 ≡ s.place + 16 = omega arith in
    rw (more_octets (first w) s (at_bit s (s.place + 8)) (first_octet w s t e) large, last_at 17 (second w) (at_bit s (s.place + 8)) (at_bit s (s.place + 8 + 8)) (second_octet w s t e) small, lt-ltb (first w - 128 + 128 * second w) (2 ^ 128) (omega arith), end, place) refl

pub three_are : (w p : ℕ) (s t : Spot) → number_at 24 align.Bits s ≡ Some (w, t) → 128 ≤ first w → 128 ≤ second w → third w < 128 → p ≡ s.place + 24 → unsigned_at s ≡ Ok (first w - 128 + 128 * (second w - 128 + 128 * third w), at_bit s p)
unfolding behind_first
three_are w p s t e large more small place =
    let end : s.place + 8 + 8 + 8 ≡ s.place + 24 = omega arith in
    rw (more_octets (first w) s (at_bit s (s.place + 8)) (first_octet w s t e) large, more_at 17 (second w) (at_bit s (s.place + 8)) (at_bit s (s.place + 8 + 8)) (second_octet w s t e) more, last_at 16 (third w) (at_bit s (s.place + 8 + 8)) (at_bit s (s.place + 8 + 8 + 8)) (third_octet w s t e) small, lt-ltb (first w - 128 + 128 * (second w - 128 + 128 * third w)) (2 ^ 128) (omega arith), end, place) refl

-- the same, as the place is set back from behind the word
pub one_goes : (w q : ℕ) (s t u : Spot) → number_at 24 align.Bits s ≡ Some (w, t) → t ≡ moved s 24 → first w < 128 → q ≡ t.place → u ≡ at_bit t (q - 16) → unsigned_at s ≡ Ok (first w, u)
one_goes w q s t u e goes small place is =
    let bytes : t.bytes ≡ s.bytes = ap (λ (x : Spot). x.bytes) goes in
    let back : q - 16 ≡ s.place + 8 = omega (arith, place, ap (λ (x : Spot). x.place) goes) in
    rw (is, bytes) (one_is w (q - 16) s t e small back)

pub two_go : (w q : ℕ) (s t u : Spot) → number_at 24 align.Bits s ≡ Some (w, t) → t ≡ moved s 24 → 128 ≤ first w → second w < 128 → q ≡ t.place → u ≡ at_bit t (q - 8) → unsigned_at s ≡ Ok (first w - 128 + 128 * second w, u)
two_go w q s t u e goes large small place is =
    let bytes : t.bytes ≡ s.bytes = ap (λ (x : Spot). x.bytes) goes in
    let back : q - 8 ≡ s.place + 16 = omega (arith, place, ap (λ (x : Spot). x.place) goes) in
    rw (is, bytes) (two_are w (q - 8) s t e large small back)

pub three_go : (w : ℕ) (s t : Spot) → number_at 24 align.Bits s ≡ Some (w, t) → t ≡ moved s 24 → 128 ≤ first w → 128 ≤ second w → third w < 128 → unsigned_at s ≡ Ok (first w - 128 + 128 * (second w - 128 + 128 * third w), t)
three_go w s t e goes large more small = rw (goes) (three_are w (s.place + 24) s t e large more small refl)
