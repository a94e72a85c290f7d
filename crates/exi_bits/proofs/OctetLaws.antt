-- Octets, one after another.
use Rattle.std.proofs.Common.{◌≡◌, ℕ, zero, suc, ◌+◌, ◌*◌, ◌/◌, ◌%◌, ◌^◌, ◌<◌, ◌≤◌, Bool, List, [], ◌∷◌, ◌++◌, length, take, drop, Ok, Err, add-zero, refl, sym, ap, ◌∙◌, subst, inl, inr, arith}
use Rattle.std.proofs.lemmas.List.{length-take, length-drop, take-append-drop, drop-drop, take-take, drop-take, take_at, drop_at, get_or-drop}
use Rattle.std.proofs.lemmas.Bool.{cases_lt, lt-ltb, le-ltb}
use Rattle.std.proofs.lemmas.Nat.{be_bytes_8}
use Rattle.std.specs.Int.{w64, to_be_bytes}
use Rattle.exi_bits.specs.declared.align.Align.TheVariants as align
use Rattle.exi_bits.specs.declared.fault.Kind.TheVariants as kind
use Rattle.exi_bits.specs.Bits.{Spot, IsBytes, at_bit, bits, left, moved, number_at, number_bits, octets_of, rest, value_of}
use Rattle.exi_bits.specs.Repeat.{octets_at, times}
use Rattle.exi_bits.specs.Unsigned.{fault_at, field_at}
use Rattle.exi_bits.proofs.BitLaws.{bits-drop, number_bits-value_of, pow_up, value_of_below, value_of-number_bits, length-number_bits}
use Rattle.exi_bits.proofs.WordLaws.{eight_value}

-- ---- octets of bits
take_more_of : (a b : ℕ) (xs : List Bool) → take (a + b) xs ≡ take a xs ++ take b (drop a xs)
take_more_of a b xs =
    let e : take a (take (a + b) xs) ≡ take a xs = take-take a (a + b) xs (omega arith) in
    sym (take-append-drop a (take (a + b) xs)) ∙ ap (λ (t : List Bool). t ++ drop a (take (a + b) xs)) e ∙ ap (λ (t : List Bool). take a xs ++ t) (drop-take a b xs)

eight_on : (n : ℕ) → 8 * suc n ≡ 8 + 8 * n
eight_on n = omega arith

bits_octet : (text : List Bool) → 8 ≤ length text → number_bits 8 (value_of (take 8 text)) ≡ take 8 text
bits_octet text long =
    let len : length (take 8 text) ≡ 8 = omega (arith, length-take 8 text) in
    subst (λ (n : ℕ). number_bits n (value_of (take 8 text)) ≡ take 8 text) len (number_bits-value_of (take 8 text))

pub bits_octets : (n : ℕ) (text : List Bool) → 8 * n ≤ length text → bits (octets_of n text) ≡ take (8 * n) text
unfolding octets_of bits
bits_octets zero text long = refl
bits_octets (suc n) text long =
    ap (λ (t : List Bool). t ++ bits (octets_of n (drop 8 text))) (bits_octet text (omega arith))
    ∙ ap (λ (t : List Bool). take 8 text ++ t) (bits_octets n (drop 8 text) (omega (arith, length-drop 8 text)))
    ∙ sym (ap (λ (k : ℕ). take k text) (eight_on n) ∙ take_more_of 8 (8 * n) text)

octet_fits : (text : List Bool) → value_of (take 8 text) < 256
octet_fits text =
    let h : value_of (take 8 text) < 2 ^ length (take 8 text) = value_of_below (take 8 text) in
    let u : 2 ^ length (take 8 text) ≤ 2 ^ 8 = pow_up (length (take 8 text)) 8 (omega (arith, length-take 8 text)) in
    omega arith

octets_fit : (n : ℕ) (text : List Bool) → IsBytes (octets_of n text)
unfolding octets_of
octets_fit zero text i = omega arith
octets_fit (suc n) text zero = octet_fits text
octets_fit (suc n) text (suc i) = octets_fit n (drop 8 text) i

-- a word's bytes
pub word_octets : (text : List Bool) → 64 ≤ length text → to_be_bytes w64 (value_of (take 64 text)) ≡ octets_of 8 text
unfolding octets_of
word_octets text long =
    let fits : IsBytes (octets_of 8 text) = octets_fit 8 text in
    let same : value_of (bits (octets_of 8 text)) ≡ value_of (take 64 text) = ap value_of (bits_octets 8 text long) in
    be_bytes_8 (octets_of 8 text) (value_of (take 64 text)) refl fits (sym same ∙ sym (eight_value _ _ _ _ _ _ _ _ (fits 0) (fits 1) (fits 2) (fits 3) (fits 4) (fits 5) (fits 6) (fits 7)))

-- octets behind octets
pub octets_add : (a b : ℕ) (text : List Bool) → octets_of (a + b) text ≡ octets_of a text ++ octets_of b (drop (8 * a) text)
unfolding octets_of
octets_add zero b text = let e : 0 + b ≡ b = omega arith in rw e refl
octets_add (suc a) b text =
    let s : suc a + b ≡ suc (a + b) = omega arith in
    let e : 8 + 8 * a ≡ 8 * suc a = omega arith in
    rw s (ap (λ (t : List ℕ). value_of (take 8 text) ∷ t) (octets_add a b (drop 8 text) ∙ ap (λ (t : List Bool). octets_of a (drop 8 text) ++ octets_of b t) (drop-drop (8 * a) 8 text ∙ ap (λ (k : ℕ). drop k text) e)))

pub octets_none : (text : List Bool) → octets_of 0 text ≡ []
unfolding octets_of
octets_none text = refl

pub next_octet : (n place : ℕ) (text : List Bool) → octets_of n (drop place text) ++ value_of (take 8 (drop (place + n * 8) text)) ∷ [] ≡ octets_of (n + 1) (drop place text)
unfolding octets_of
next_octet n place text =
    let e : place + 8 * n ≡ place + n * 8 = omega arith in
    sym (octets_add n 1 (drop place text) ∙ ap (λ (t : List Bool). octets_of n (drop place text) ++ value_of (take 8 t) ∷ []) (drop-drop (8 * n) place text ∙ ap (λ (k : ℕ). drop k text) e))

pub next_word : (n place : ℕ) (text : List Bool) → place + n * 64 + 64 ≤ length text → octets_of (8 * n) (drop place text) ++ to_be_bytes w64 (value_of (take 64 (drop (place + n * 64) text))) ≡ octets_of (8 * (n + 1)) (drop place text)
next_word n place text long =
    let e : 8 * n + 8 ≡ 8 * (n + 1) = omega arith in
    let p : place + 8 * (8 * n) ≡ place + n * 64 = omega arith in
    ap (λ (t : List ℕ). octets_of (8 * n) (drop place text) ++ t) (word_octets (drop (place + n * 64) text) (omega (arith, length-drop (place + n * 64) text)))
    ∙ sym (ap (λ (k : ℕ). octets_of k (drop place text)) (sym e) ∙ octets_add (8 * n) 8 (drop place text) ∙ ap (λ (t : List Bool). octets_of (8 * n) (drop place text) ++ octets_of 8 t) (drop-drop (8 * (8 * n)) place text ∙ ap (λ (k : ℕ). drop k text) p))

-- at a whole byte they are the bytes
whole_octets : (n : ℕ) (bs : List ℕ) → IsBytes bs → n ≤ length bs → octets_of n (bits bs) ≡ take n bs
unfolding octets_of bits
whole_octets zero bs fits le = refl
whole_octets (suc n) [] fits le = absurd (omega arith)
whole_octets (suc n) (b ∷ bs) fits le =
    let one : take 8 (number_bits 8 b ++ bits bs) ≡ number_bits 8 b = take_at (number_bits 8 b) (bits bs) 8 (length-number_bits 8 b) in
    let two : drop 8 (number_bits 8 b ++ bits bs) ≡ bits bs = drop_at (number_bits 8 b) (bits bs) 8 (length-number_bits 8 b) in
    rw (one, two, value_of-number_bits 8 b (fits 0), whole_octets n bs (λ i. fits (suc i)) (omega arith)) refl

pub copied_octets : (bs : List ℕ) (place count : ℕ) → IsBytes bs → place % 8 ≡ 0 → place + 8 * count ≤ 8 * length bs → take count (drop (place / 8) bs) ≡ octets_of count (drop place (bits bs))
copied_octets bs place count fits whole le =
    let e : 8 * (place / 8) ≡ place = omega arith in
    sym (ap (λ (p : ℕ). octets_of count (drop p (bits bs))) (sym e) ∙ ap (λ (t : List Bool). octets_of count t) (bits-drop (place / 8) bs (omega arith)) ∙ whole_octets count (drop (place / 8) bs) (λ i. rw get_or-drop (fits (place / 8 + i))) (omega (arith, length-drop (place / 8) bs)))

-- ---- the reading
one_octet_at : (s : Spot) → 8 ≤ left s → field_at 8 align.Bits s ≡ Ok (value_of (take 8 (rest s)), moved s 8)
unfolding field_at number_at
one_octet_at s long = rw (le-ltb (left s) 8 long) refl

no_octet_at : (s : Spot) → left s < 8 → field_at 8 align.Bits s ≡ fault_at kind.Short s
unfolding field_at number_at
no_octet_at s short = rw (lt-ltb (left s) 8 short) refl

-- they are there
pub octets_read : (n : ℕ) (s : Spot) → 8 * n ≤ left s → octets_at n s ≡ Ok (octets_of n (rest s), moved s (8 * n))
unfolding times octets_of
octets_read zero s long = ap (λ (p : ℕ). Ok ([], at_bit s p)) (sym (add-zero s.place))
octets_read (suc n) s long =
    let again : octets_at n (moved s 8) ≡ Ok (octets_of n (rest (moved s 8)), moved (moved s 8) (8 * n)) = octets_read n (moved s 8) (omega arith) in
    let behind : rest (moved s 8) ≡ drop 8 (rest s) = sym (drop-drop 8 s.place (bits s.bytes)) in
    let e : s.place + 8 + 8 * n ≡ s.place + 8 * suc n = omega arith in
    rw (one_octet_at s (omega arith), again, behind) (ap (λ (p : ℕ). Ok (value_of (take 8 (rest s)) ∷ octets_of n (drop 8 (rest s)), at_bit s p)) e)

-- the bits end before so many do
pub octets_short : (n : ℕ) (s : Spot) → left s < 8 * n → octets_at n s ≡ Err (record { kind = kind.Short; bit = s.place + left s / 8 * 8 })
unfolding times
octets_short zero s short = absurd (omega arith)
octets_short (suc n) s short = elim (cases_lt (left s) 8) [
  | inl none ↦ let e : s.place ≡ s.place + left s / 8 * 8 = omega arith in rw (no_octet_at s none) (ap (λ (bit : ℕ). Err (record { kind = kind.Short; bit = bit })) e)
  | inr some ↦
      let again : octets_at n (moved s 8) ≡ Err (record { kind = kind.Short; bit = s.place + 8 + left (moved s 8) / 8 * 8 }) = octets_short n (moved s 8) (omega arith) in
      let e : s.place + 8 + left (moved s 8) / 8 * 8 ≡ s.place + left s / 8 * 8 = omega arith in
      rw (one_octet_at s some, again) (ap (λ (bit : ℕ). Err (record { kind = kind.Short; bit = bit })) e)
]
