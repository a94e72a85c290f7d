-- A word's octets, looked at all at once.
use Rattle.std.proofs.Common.{◌≡◌, ℕ, zero, suc, ◌+◌, ◌*◌, ◌-◌, ◌/◌, ◌%◌, ◌^◌, ◌<◌, ◌≤◌, Bool, true, false, ◌||◌, List, get_or, refl, sym, ap, ◌∙◌, subst, arith}
use Rattle.std.specs.Int.{w64, to_be_bytes}
use Rattle.std.proofs.lemmas.Bool.{and_parts, eqb-true, le-leb}
use Rattle.std.proofs.lemmas.Nat.{shr-shr}
use Rattle.exi_names.specs.Characters.{between}
use Rattle.exi_text.specs.Literals.{is_plain}
use Rattle.exi_text.specs.Words.{is_plain_word, no_tops}

eight : (P : ℕ → Type 0) → P 0 → P 1 → P 2 → P 3 → P 4 → P 5 → P 6 → P 7 → (k : ℕ) → k < 8 → P k
eight P a b c d e f g h zero lt = a
eight P a b c d e f g h (suc zero) lt = b
eight P a b c d e f g h (suc (suc zero)) lt = c
eight P a b c d e f g h (suc (suc (suc zero))) lt = d
eight P a b c d e f g h (suc (suc (suc (suc zero)))) lt = e
eight P a b c d e f g h (suc (suc (suc (suc (suc zero))))) lt = f
eight P a b c d e f g h (suc (suc (suc (suc (suc (suc zero)))))) lt = g
eight P a b c d e f g h (suc (suc (suc (suc (suc (suc (suc zero))))))) lt = h
eight P a b c d e f g h (suc (suc (suc (suc (suc (suc (suc (suc k)))))))) lt = absurd (omega arith)

-- ---- the tests, octet by octet from the lowest
low_bits : (w : ℕ) → no_tops w ≡ true → (k : ℕ) → k < 8 → w / 2 ^ (8 * k + 7) % 2 ≡ 0
low_bits w h =
    let p7 = and_parts _ _ h in
    let p6 = and_parts _ _ p7.0 in
    let p5 = and_parts _ _ p6.0 in
    let p4 = and_parts _ _ p5.0 in
    let p3 = and_parts _ _ p4.0 in
    let p2 = and_parts _ _ p3.0 in
    let p1 = and_parts _ _ p2.0 in
    eight (λ k. w / 2 ^ (8 * k + 7) % 2 ≡ 0) (eqb-true _ _ p1.0) (eqb-true _ _ p1.1) (eqb-true _ _ p2.1) (eqb-true _ _ p3.1) (eqb-true _ _ p4.1) (eqb-true _ _ p5.1) (eqb-true _ _ p6.1) (eqb-true _ _ p7.1)

-- 9F in each of so many octets
abbrev nines : ℕ → ℕ
nines zero = 0
nines (suc n) = 256 * nines n + 159

over : (x k : ℕ) → x / 2 ^ (8 * suc k) ≡ x / 256 / 2 ^ (8 * k)
over x k = let e : 8 * suc k ≡ 8 + 8 * k = omega arith in ap (λ (n : ℕ). x / 2 ^ n) e ∙ sym (shr-shr x 8 (8 * k))

over_top : (x k : ℕ) → x / 2 ^ (8 * suc k + 7) ≡ x / 256 / 2 ^ (8 * k + 7)
over_top x k = let e : 8 * suc k + 7 ≡ 8 + (8 * k + 7) = omega arith in ap (λ (n : ℕ). x / 2 ^ n) e ∙ sym (shr-shr x 8 (8 * k + 7))

first_high : (w s : ℕ) → w / 128 % 2 ≡ 0 → w % 256 < 128
first_high w s a = omega arith

first_low : (w s : ℕ) → w ≤ 256 * s + 159 → w / 128 % 2 ≡ 0 → (256 * s + 159 - w) / 128 % 2 ≡ 0 → 32 ≤ w % 256
first_low w s le a b = omega arith

others_low : (w s : ℕ) → w ≤ 256 * s + 159 → w / 128 % 2 ≡ 0 → (256 * s + 159 - w) / 256 ≡ s - w / 256
others_low w s le a = omega arith

others_within : (w s : ℕ) → w ≤ 256 * s + 159 → w / 256 ≤ s
others_within w s le = omega arith

no_shift : (w : ℕ) → w / 1 ≡ w
no_shift w = omega arith

abbrev InRange : ℕ → Type 0
InRange o = (32 ≤ o % 256) × (o % 256 < 128)

in_range : (n w : ℕ) → w ≤ nines n → ((k : ℕ) → k < n → w / 2 ^ (8 * k + 7) % 2 ≡ 0) → ((k : ℕ) → k < n → (nines n - w) / 2 ^ (8 * k + 7) % 2 ≡ 0) → (k : ℕ) → k < n → InRange (w / 2 ^ (8 * k))
in_range zero w le low top k lt = absurd (omega arith)
in_range (suc n) w le low top zero lt =
    let a : w / 128 % 2 ≡ 0 = low 0 (omega arith) in
    let b : (256 * nines n + 159 - w) / 128 % 2 ≡ 0 = top 0 (omega arith) in
    subst (λ (o : ℕ). InRange o) (sym (no_shift w)) (first_low w (nines n) le a b, first_high w (nines n) a)
in_range (suc n) w le low top (suc k) lt =
    let a : w / 128 % 2 ≡ 0 = low 0 (omega arith) in
    subst (λ (o : ℕ). InRange o) (sym (over w k)) (in_range n (w / 256) (others_within w (nines n) le)
    (λ j h. ap (λ (x : ℕ). x % 2) (sym (over_top w j)) ∙ low (suc j) (omega (arith, h)))
    (λ j h. ap (λ (x : ℕ). x / 2 ^ (8 * j + 7) % 2) (sym (others_low w (nines n) le a)) ∙ ap (λ (x : ℕ). x % 2) (sym (over_top (256 * nines n + 159 - w) j)) ∙ top (suc j) (omega (arith, h)))
    k (omega (arith, lt)))

-- none has its top bit, so not the word's own
low_word : (w : ℕ) → w < 18446744073709551616 → no_tops w ≡ true → w ≤ 0x9F9F9F9F9F9F9F9F
low_word w fits h = let a : w / 9223372036854775808 % 2 ≡ 0 = low_bits w h 7 (omega arith) in omega arith

word_range : (w : ℕ) → w < 18446744073709551616 → is_plain_word w ≡ true → (k : ℕ) → k < 8 → InRange (w / 2 ^ (8 * k))
word_range w fits h =
    let p = and_parts (no_tops w) (no_tops (0x9F9F9F9F9F9F9F9F - w)) h in
    in_range 8 w (low_word w fits p.0) (low_bits w p.0) (low_bits (0x9F9F9F9F9F9F9F9F - w) p.1)

-- ---- from the highest
octet_is : (w i : ℕ) → i < 8 → get_or (to_be_bytes w64 w) i 0 ≡ w / 2 ^ (8 * (7 - i)) % 256
octet_is w = eight (λ i. get_or (to_be_bytes w64 w) i 0 ≡ w / 2 ^ (8 * (7 - i)) % 256) refl refl refl refl refl refl refl (ap (λ (x : ℕ). x % 256) (sym (no_shift w)))

or_true : (x : Bool) → (x || true) ≡ true
or_true true = refl
or_true false = refl

range_plain : (c : ℕ) → 32 ≤ c → c < 128 → is_plain c ≡ true
range_plain c low high = rw (le-leb 0x20 c low, le-leb c 0x7F (omega (arith, high))) (or_true (between 0x9 0xA c || between 0xD 0xD c))

word_plain : (w i : ℕ) → w < 18446744073709551616 → is_plain_word w ≡ true → i < 8 → is_plain (w / 2 ^ (8 * (7 - i)) % 256) ≡ true
word_plain w i fits h lt = let p = word_range w fits h (7 - i) (omega (arith, lt)) in range_plain (w / 2 ^ (8 * (7 - i)) % 256) p.0 p.1

pub word_octets_plain : (w : ℕ) (os : List ℕ) → w < 18446744073709551616 → os ≡ to_be_bytes w64 w → is_plain_word w ≡ true → (i : ℕ) → i < 8 → is_plain (get_or os i 0) ≡ true
word_octets_plain w os fits e h i lt = ap (λ (x : List ℕ). is_plain (get_or x i 0)) e ∙ ap is_plain (octet_is w i lt) ∙ word_plain w i fits h lt

-- ---- with spaces behind
same_above : (v w a k : ℕ) → v / 2 ^ a ≡ w / 2 ^ a → v / 2 ^ (a + k) ≡ w / 2 ^ (a + k)
same_above v w a k e = sym (shr-shr v a k) ∙ ap (λ (x : ℕ). x / 2 ^ k) e ∙ shr-shr w a k

same_octet : (v w n i : ℕ) → v / 2 ^ (64 - 8 * n) ≡ w / 2 ^ (64 - 8 * n) → n < 8 → i < n → v / 2 ^ (8 * (7 - i)) ≡ w / 2 ^ (8 * (7 - i))
same_octet v w n i e few lt =
    let k : (64 - 8 * n) + (8 * (7 - i) - (64 - 8 * n)) ≡ 8 * (7 - i) = omega arith in
    subst (λ (b : ℕ). v / 2 ^ b ≡ w / 2 ^ b) k (same_above v w (64 - 8 * n) (8 * (7 - i) - (64 - 8 * n)) e)

pub first_octets_plain : (v w n : ℕ) (os : List ℕ) → v < 18446744073709551616 → os ≡ to_be_bytes w64 w → v / 2 ^ (64 - 8 * n) ≡ w / 2 ^ (64 - 8 * n) → n < 8 → is_plain_word v ≡ true → (i : ℕ) → i < n → is_plain (get_or os i 0) ≡ true
first_octets_plain v w n os fits e same few h i lt =
    ap (λ (x : List ℕ). is_plain (get_or x i 0)) e ∙ ap is_plain (octet_is w i (omega (arith, few, lt))) ∙ ap (λ (x : ℕ). is_plain (x % 256)) (sym (same_octet v w n i same few lt)) ∙ word_plain v i fits h (omega (arith, few, lt))

abbrev pub Filled : ℕ → ℕ → Type 0
Filled w n = (w / 2 ^ (64 - 8 * n) * 2 ^ (64 - 8 * n) % 18446744073709551616 + 2314885530818453536 / 2 ^ (8 * n) < 18446744073709551616)
    × ((w / 2 ^ (64 - 8 * n) * 2 ^ (64 - 8 * n) % 18446744073709551616 + 2314885530818453536 / 2 ^ (8 * n)) / 2 ^ (64 - 8 * n) ≡ w / 2 ^ (64 - 8 * n))

pub fill_is : (w n : ℕ) → w < 18446744073709551616 → 1 ≤ n → n < 8 → Filled w n
fill_is w zero fits some few = absurd (omega arith)
fill_is w (suc zero) fits some few = (omega arith, omega arith)
fill_is w (suc (suc zero)) fits some few = (omega arith, omega arith)
fill_is w (suc (suc (suc zero))) fits some few = (omega arith, omega arith)
fill_is w (suc (suc (suc (suc zero)))) fits some few = (omega arith, omega arith)
fill_is w (suc (suc (suc (suc (suc zero))))) fits some few = (omega arith, omega arith)
fill_is w (suc (suc (suc (suc (suc (suc zero)))))) fits some few = (omega arith, omega arith)
fill_is w (suc (suc (suc (suc (suc (suc (suc zero))))))) fits some few = (omega arith, omega arith)
fill_is w (suc (suc (suc (suc (suc (suc (suc (suc n)))))))) fits some few = absurd (omega arith)
