-- Hex digits in pairs, as the crate `hex` reads and writes them.
use Rattle.std.proofs.Common.{◌≡◌, ℕ, zero, suc, ◌+◌, ◌*◌, ◌/◌, ◌%◌, ◌<◌, Bool, true, false, ◌==◌, List, [], ◌∷◌, length, Option, Some, None, Result, Ok, Err, refl, sym, ap, ◌∙◌, inl, inr, arith}
use Rattle.std.proofs.lemmas.Bool.Decides.{nat_tests}
use Rattle.std.proofs.lemmas.Bool.{cases_eq, eqb-true, false≢true}
use Rattle.std.specs.Result.{result_ok}
use Rattle.std.specs.Prelude.{slice_index}
use Rattle.hex.specs.Hex.{◌>>=◌, decode_of, decode_pairs, digit_or_error, encode_with, hex_digit_value, upper_digits}
use Rattle.hex.specs.declared.error.FromHexError.{FromHexError}
use Rattle.hex.proofs.HexLemmas.{decode_of-even, decode_of-ok}
use Rattle.exi_lexical.specs.Binaries.{hex_digit, hex_octets, hex_sign, hex_text, octet_before}
use Rattle.exi_lexical.proofs.Tables.{all_below, at_below}

digit_same : (c : ℕ) → hex_digit_value c ≡ hex_digit c
digit_same c = grind (arith, nat_tests)

pair_is : (high low i : ℕ) (h l : Option ℕ) (r : Result (List ℕ) FromHexError)
    → result_ok ((digit_or_error high i h >>= λ x. digit_or_error low (i + 1) l >>= λ y. Ok (x * 16 + y)) >>= λ byte. r >>= λ bytes. Ok (byte ∷ bytes)) ≡ octet_before h l (result_ok r)
pair_is high low i None l r = refl
pair_is high low i (Some h) None r = refl
pair_is high low i (Some h) (Some l) (Ok os) = refl
pair_is high low i (Some h) (Some l) (Err e) = refl

pairs_are : (i : ℕ) (t : List ℕ) → result_ok (decode_pairs i t) ≡ hex_octets t
unfolding decode_pairs hex_octets
pairs_are i [] = refl
pairs_are i (c ∷ []) = refl
pairs_are i (high ∷ low ∷ rest) =
    pair_is high low i (hex_digit_value high) (hex_digit_value low) (decode_pairs (i + 2) rest)
    ∙ rw (digit_same high, digit_same low, pairs_are (i + 2) rest) refl

pub decoded_is : (t os : List ℕ) → decode_of t ≡ Ok os → hex_octets t ≡ Some os
decoded_is t os h =
    let p = decode_of-ok t os h in
    sym (pairs_are 0 t) ∙ ap (λ (r : Result (List ℕ) FromHexError). result_ok r) (sym (decode_of-even t p.0) ∙ h)

none_before : (h l : Option ℕ) → octet_before h l None ≡ None
none_before None l = refl
none_before (Some h) None = refl
none_before (Some h) (Some l) = refl

odd_none : (t : List ℕ) → length t % 2 ≡ 1 → hex_octets t ≡ None
unfolding hex_octets
odd_none [] h = absurd (omega arith)
odd_none (c ∷ []) h = refl
odd_none (high ∷ low ∷ rest) h = rw (odd_none rest (omega arith)) (none_before (hex_digit high) (hex_digit low))

pub refused_is : (t : List ℕ) (e : FromHexError) → decode_of t ≡ Err e → hex_octets t ≡ None
refused_is t e h = elim (cases_eq (length t % 2) 1) [
  | inl odd ↦ odd_none t odd
  | inr other ↦
      let even : length t % 2 ≡ 0 = omega arith in
      sym (pairs_are 0 t) ∙ ap (λ (r : Result (List ℕ) FromHexError). result_ok r) (sym (decode_of-even t even) ∙ h)
]

-- ---- writing
abbrev sign_test : ℕ → Bool
sign_test n = slice_index upper_digits n == hex_sign n

sign_is : (n : ℕ) → n < 16 → slice_index upper_digits n ≡ hex_sign n
unfolding all_below
sign_is n lt = eqb-true _ _ (at_below sign_test 16 n refl lt)

pub upper_is : (os : List ℕ) → ((i : ℕ) → slice_index os i < 256) → encode_with upper_digits os ≡ hex_text os
unfolding encode_with hex_text
upper_is [] fits = refl
upper_is (o ∷ os) fits =
    let lt = fits 0 in
    rw (sign_is (o / 16) (omega arith), sign_is (o % 16) (omega arith), upper_is os (λ i. fits (suc i))) refl

-- ---- reading what is written
abbrev is_digit_of : ℕ → Option ℕ → Bool
is_digit_of n (Some m) = m == n
is_digit_of n None = false

digit_back : (n : ℕ) (d : Option ℕ) → is_digit_of n d ≡ true → d ≡ Some n
digit_back n (Some m) h = ap (λ (k : ℕ). Some k) (eqb-true m n h)
digit_back n None h = absurd (false≢true h)

sign_read : (n : ℕ) → n < 16 → hex_digit (hex_sign n) ≡ Some n
unfolding all_below
sign_read n lt = digit_back n (hex_digit (hex_sign n)) (at_below (λ k. is_digit_of k (hex_digit (hex_sign k))) 16 n refl lt)

pub hex_read : (os : List ℕ) → ((i : ℕ) → slice_index os i < 256) → hex_octets (hex_text os) ≡ Some os
unfolding hex_octets hex_text
hex_read [] fits = refl
hex_read (o ∷ os) fits =
    let lt : o < 256 = fits 0 in
    let whole : o / 16 * 16 + o % 16 ≡ o = omega arith in
    rw (sign_read (o / 16) (omega arith), sign_read (o % 16) (omega arith), hex_read os (λ i. fits (suc i)), whole) refl

hex_digit_below : (c n : ℕ) → hex_digit c ≡ Some n → n < 16
hex_digit_below c n h = grind (arith, nat_tests)

octet_is : (h l : Option ℕ) (o : Option (List ℕ)) (os : List ℕ) → octet_before h l o ≡ Some os
    → (a : ℕ) × (b : ℕ) × (more : List ℕ) × (h ≡ Some a) × (l ≡ Some b) × (o ≡ Some more) × (os ≡ (a * 16 + b) ∷ more)
octet_is None l o os e = cc e
octet_is (Some a) None o os e = cc e
octet_is (Some a) (Some b) None os e = cc e
octet_is (Some a) (Some b) (Some more) os e = (a, b, more, refl, refl, refl, cc e)

fits_first : (o : ℕ) (os : List ℕ) → o < 256 → ((i : ℕ) → slice_index os i < 256) → (i : ℕ) → slice_index (o ∷ os) i < 256
fits_first o os lt fits zero = lt
fits_first o os lt fits (suc i) = fits i

pub hex_fits : (t os : List ℕ) → hex_octets t ≡ Some os → (i : ℕ) → slice_index os i < 256
unfolding hex_octets
hex_fits [] os e = let h : os ≡ [] = cc e in rw h (λ i. omega arith)
hex_fits (c ∷ []) os e = cc e
hex_fits (c ∷ d ∷ t) os e =
    let (a, b, more, ha, hb, ho, parts) = octet_is (hex_digit c) (hex_digit d) (hex_octets t) os e in
    let la = hex_digit_below c a ha in
    let lb = hex_digit_below d b hb in
    rw parts (fits_first (a * 16 + b) more (omega arith) (hex_fits t more ho))
