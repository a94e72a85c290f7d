-- Base64 digits in groups of four, as the crate `base64` reads and writes them.
use Rattle.std.proofs.Common.{◌≡◌, ℕ, zero, suc, ◌+◌, ◌*◌, ◌/◌, ◌%◌, ◌<◌, ◌≤◌, Bool, true, false, not, ◌==◌, ◌&&◌, nat_lt, nat_le, List, [], ◌∷◌, ◌++◌, length, replicate, Option, Some, None, Ok, Err, ◌↔◌, refl, sym, ap, ◌∙◌, inl, inr, arith}
use Rattle.std.proofs.lemmas.Bool.{and_parts, cases_Bool, cases_lt, eqb-true, ltb-true, false≢true}
use Rattle.std.proofs.lemmas.Bool.Decides.{nat_tests}
use Rattle.std.specs.Prelude.{slice_index}
use Rattle.base64.specs.Rfc4648.{encode_symbols, padding_len}
use Rattle.base64.specs.GeneralPurpose.{decode_of, encode_of, engine_symbols, IsBytes, IsDecodeFailure}
use Rattle.base64.specs.declared.decode.DecodeAllocError.{DecodeAllocError}
use Rattle.base64.specs.declared.decode.DecodeAllocError.TheVariants.{DecodeError as Failed, OutOfMemory}
use Rattle.base64.specs.Engines.{standard}
use Rattle.exi_lexical.specs.Spaces.{is_some_text}
use Rattle.exi_lexical.specs.Binaries.{base64_digit, base64_octets, base64_sign, base64_text, filler, group_octets, octets_before, one_octet, two_octets, three_octets}
use Rattle.exi_lexical.proofs.Tables.{all_below, at_below}

-- ---- one digit
abbrev table : List ℕ
table = engine_symbols standard

abbrev is_digit_of : ℕ → Option ℕ → Bool
is_digit_of n (Some m) = m == n
is_digit_of n None = false

abbrev sign_test : ℕ → Bool
sign_test n = (slice_index table n == base64_sign n) && is_digit_of n (base64_digit (base64_sign n)) && not (base64_sign n == 61)

digit_back : (n : ℕ) (d : Option ℕ) → is_digit_of n d ≡ true → d ≡ Some n
digit_back n (Some m) h = ap (λ (k : ℕ). Some k) (eqb-true m n h)
digit_back n None h = absurd (false≢true h)

record Sign (n : ℕ) : Type 0 where
  in_table : slice_index table n ≡ base64_sign n
  back : base64_digit (base64_sign n) ≡ Some n
  no_filler : (base64_sign n == 61) ≡ false

sign_of : (n : ℕ) → n < 64 → Sign n
unfolding all_below
sign_of n lt =
    let all = at_below sign_test 64 n refl lt in
    let p = and_parts ((slice_index table n == base64_sign n) && is_digit_of n (base64_digit (base64_sign n))) (not (base64_sign n == 61)) all in
    let q = and_parts (slice_index table n == base64_sign n) (is_digit_of n (base64_digit (base64_sign n))) p.0 in
    record { in_table = eqb-true _ _ q.0; back = digit_back n (base64_digit (base64_sign n)) q.1; no_filler = grind arith }

abbrev is_sign_of : ℕ → Option ℕ → Bool
is_sign_of c (Some n) = nat_lt n 64 && (base64_sign n == c)
is_sign_of c None = true

sign_back : (c n : ℕ) (d : Option ℕ) → is_sign_of c d ≡ true → d ≡ Some n → (n < 64) × (base64_sign n ≡ c)
sign_back c n None h e = cc e
sign_back c n (Some m) h e =
    let p = and_parts (nat_lt m 64) (base64_sign m == c) h in
    let same : m ≡ n = cc in
    rw (← same) (ltb-true m 64 p.0, eqb-true (base64_sign m) c p.1)

-- which digit a byte is
digit_of : (c n : ℕ) → c < 256 → base64_digit c ≡ Some n → (n < 64) × (base64_sign n ≡ c)
unfolding all_below
digit_of c n lt e = sign_back c n (base64_digit c) (at_below (λ k. is_sign_of k (base64_digit k)) 256 c refl lt) e

no_digit : (c : ℕ) → 256 ≤ c → base64_digit c ≡ None
no_digit c big =
    let a : nat_le 65 c ≡ true = grind (arith, nat_tests) in
    let b : nat_le c 90 ≡ false = grind (arith, nat_tests) in
    let d : nat_le 97 c ≡ true = grind (arith, nat_tests) in
    let e : nat_le c 122 ≡ false = grind (arith, nat_tests) in
    let f : nat_le 48 c ≡ true = grind (arith, nat_tests) in
    let g : nat_le c 57 ≡ false = grind (arith, nat_tests) in
    let h : (c == 43) ≡ false = grind (arith, nat_tests) in
    let k : (c == 47) ≡ false = grind (arith, nat_tests) in
    rw (a, b, d, e, f, g, h, k) refl

digit_any : (c n : ℕ) → base64_digit c ≡ Some n → (n < 64) × (base64_sign n ≡ c)
digit_any c n e = elim (cases_lt c 256) [
  | inl lt ↦ digit_of c n lt e
  | inr big ↦ let none = sym (no_digit c big) ∙ e in cc none
]

-- ---- what is written is the crate's encoding
rest_fits : (o : ℕ) (os : List ℕ) → IsBytes (o ∷ os) → IsBytes os
rest_fits o os fits i = fits (suc i)

padding_same : (n : ℕ) → padding_len (suc (suc (suc n))) ≡ padding_len n
padding_same n = let e : suc (suc (suc n)) % 3 ≡ n % 3 = omega arith in rw e refl

symbols_are : (os : List ℕ) → IsBytes os → encode_symbols table os ++ replicate (padding_len (length os)) 61 ≡ base64_text os
unfolding encode_symbols base64_text
symbols_are [] fits = refl
symbols_are (a ∷ []) fits =
    let la : a < 256 = fits 0 in
    rw ((sign_of (a / 4) (omega arith)).in_table, (sign_of (a % 4 * 16) (omega arith)).in_table) refl
symbols_are (a ∷ b ∷ []) fits =
    let la : a < 256 = fits 0 in
    let lb : b < 256 = fits 1 in
    rw ((sign_of (a / 4) (omega arith)).in_table, (sign_of (a % 4 * 16 + b / 16) (omega arith)).in_table, (sign_of (b % 16 * 4) (omega arith)).in_table) refl
symbols_are (a ∷ b ∷ c ∷ os) fits =
    let la : a < 256 = fits 0 in
    let lb : b < 256 = fits 1 in
    let lc : c < 256 = fits 2 in
    let more = symbols_are os (λ i. fits (suc (suc (suc i)))) in
    rw ((sign_of (a / 4) (omega arith)).in_table, (sign_of (a % 4 * 16 + b / 16) (omega arith)).in_table, (sign_of (b % 16 * 4 + c / 64) (omega arith)).in_table, (sign_of (c % 64) (omega arith)).in_table, padding_same (length os))
    (ap (λ (t : List ℕ). base64_sign (a / 4) ∷ base64_sign (a % 4 * 16 + b / 16) ∷ base64_sign (b % 16 * 4 + c / 64) ∷ base64_sign (c % 64) ∷ t) more)

pub standard_is : (os : List ℕ) → IsBytes os → encode_of standard os ≡ base64_text os
standard_is os fits = symbols_are os fits

-- ---- what is written is read
and_false : (b : Bool) → (b && false) ≡ false
and_false true = refl
and_false false = refl

pub text_read : (os : List ℕ) → IsBytes os → base64_octets (base64_text os) ≡ Some os
unfolding base64_octets base64_text
text_read [] fits = refl
text_read (a ∷ []) fits =
    let la : a < 256 = fits 0 in
    let x : a / 4 * 4 + a % 4 * 16 / 16 ≡ a = omega arith in
    let zero_bits : a % 4 * 16 % 16 ≡ 0 = omega arith in
    rw ((sign_of (a / 4) (omega arith)).back, (sign_of (a % 4 * 16) (omega arith)).back, zero_bits, x) refl
text_read (a ∷ b ∷ []) fits =
    let la : a < 256 = fits 0 in
    let lb : b < 256 = fits 1 in
    let x : a / 4 * 4 + (a % 4 * 16 + b / 16) / 16 ≡ a = omega arith in
    let y : (a % 4 * 16 + b / 16) % 16 * 16 + b % 16 * 4 / 4 ≡ b = omega arith in
    let zero_bits : b % 16 * 4 % 4 ≡ 0 = omega arith in
    let s = sign_of (b % 16 * 4) (omega arith) in
    rw (s.no_filler, (sign_of (a / 4) (omega arith)).back, (sign_of (a % 4 * 16 + b / 16) (omega arith)).back, s.back, zero_bits, x, y) refl
text_read (a ∷ b ∷ c ∷ os) fits =
    let la : a < 256 = fits 0 in
    let lb : b < 256 = fits 1 in
    let lc : c < 256 = fits 2 in
    let x : a / 4 * 4 + (a % 4 * 16 + b / 16) / 16 ≡ a = omega arith in
    let y : (a % 4 * 16 + b / 16) % 16 * 16 + (b % 16 * 4 + c / 64) / 4 ≡ b = omega arith in
    let z : (b % 16 * 4 + c / 64) % 4 * 64 + c % 64 ≡ c = omega arith in
    let s = sign_of (c % 64) (omega arith) in
    let more = text_read os (λ i. fits (suc (suc (suc i)))) in
    rw (s.no_filler, (sign_of (a / 4) (omega arith)).back, (sign_of (a % 4 * 16 + b / 16) (omega arith)).back, (sign_of (b % 16 * 4 + c / 64) (omega arith)).back, s.back, x, y, z, more, and_false (not (is_some_text (base64_text os)))) refl

-- ---- what is read is written so
one_is : (p q : Option ℕ) (os : List ℕ) → one_octet p q ≡ Some os → (a : ℕ) × (b : ℕ) × (p ≡ Some a) × (q ≡ Some b) × (b % 16 ≡ 0) × (os ≡ (a * 4 + b / 16) ∷ [])
one_is None q os e = cc e
one_is (Some a) None os e = cc e
one_is (Some a) (Some b) os e = elim (cases_Bool (b % 16 == 0)) [
  | inl h ↦ let k = rw h at e in (a, b, refl, refl, eqb-true (b % 16) 0 h, cc k)
  | inr h ↦ let k = rw h at e in cc k
]

two_is : (p q r : Option ℕ) (os : List ℕ) → two_octets p q r ≡ Some os
    → (a : ℕ) × (b : ℕ) × (c : ℕ) × (p ≡ Some a) × (q ≡ Some b) × (r ≡ Some c) × (c % 4 ≡ 0) × (os ≡ (a * 4 + b / 16) ∷ (b % 16 * 16 + c / 4) ∷ [])
two_is None q r os e = cc e
two_is (Some a) None r os e = cc e
two_is (Some a) (Some b) None os e = cc e
two_is (Some a) (Some b) (Some c) os e = elim (cases_Bool (c % 4 == 0)) [
  | inl h ↦ let k = rw h at e in (a, b, c, refl, refl, refl, eqb-true (c % 4) 0 h, cc k)
  | inr h ↦ let k = rw h at e in cc k
]

three_is : (p q r s : Option ℕ) (os : List ℕ)
    → three_octets p q r s ≡ Some os
    → (a : ℕ) × (b : ℕ) × (c : ℕ) × (d : ℕ) × (p ≡ Some a) × (q ≡ Some b) × (r ≡ Some c) × (s ≡ Some d) × (os ≡ (a * 4 + b / 16) ∷ (b % 16 * 16 + c / 4) ∷ (c % 4 * 64 + d) ∷ [])
three_is None q r s os e = cc e
three_is (Some a) None r s os e = cc e
three_is (Some a) (Some b) None s os e = cc e
three_is (Some a) (Some b) (Some c) None os e = cc e
three_is (Some a) (Some b) (Some c) (Some d) os e = (a, b, c, d, refl, refl, refl, refl, cc e)

before_is : (p q : Option (List ℕ)) (os : List ℕ) → octets_before p q ≡ Some os → (first : List ℕ) × (more : List ℕ) × (p ≡ Some first) × (q ≡ Some more) × (os ≡ first ++ more)
before_is None q os e = cc e
before_is (Some first) None os e = cc e
before_is (Some first) (Some more) os e = (first, more, refl, refl, cc e)

-- the octets of a group, and how they are written before others
record Group (others : Bool) (a b c d : ℕ) (os : List ℕ) : Type 0 where
  written : (more : List ℕ) → (others ≡ false → more ≡ []) → base64_text (os ++ more) ≡ a ∷ b ∷ c ∷ d ∷ base64_text more
  fits : (more : List ℕ) → IsBytes more → IsBytes (os ++ more)

none_fits : IsBytes []
none_fits i = omega arith

fit_first : (o : ℕ) (os : List ℕ) → o < 256 → IsBytes os → IsBytes (o ∷ os)
fit_first o os lt fits zero = lt
fit_first o os lt fits (suc i) = fits i

one_group : (a b : ℕ) (os : List ℕ) → one_octet (base64_digit a) (base64_digit b) ≡ Some os → Group false a b filler filler os
unfolding base64_text
one_group a b os e =
    let (x, y, dx, dy, zero_bits, parts) = one_is (base64_digit a) (base64_digit b) os e in
    let (lx, sx) = digit_any a x dx in
    let (ly, sy) = digit_any b y dy in
    let ex : (x * 4 + y / 16) / 4 ≡ x = omega arith in
    let ey : (x * 4 + y / 16) % 4 * 16 ≡ y = omega arith in
    record {
      written = λ more none. rw (none refl, parts, ex, ey, sx, sy) refl;
      fits = λ more fit. rw parts (fit_first (x * 4 + y / 16) more (omega arith) fit);
    }

two_group : (a b c : ℕ) (os : List ℕ) → two_octets (base64_digit a) (base64_digit b) (base64_digit c) ≡ Some os → Group false a b c filler os
unfolding base64_text
two_group a b c os e =
    let (x, y, z, dx, dy, dz, zero_bits, parts) = two_is (base64_digit a) (base64_digit b) (base64_digit c) os e in
    let (lx, sx) = digit_any a x dx in
    let (ly, sy) = digit_any b y dy in
    let (lz, sz) = digit_any c z dz in
    let ex : (x * 4 + y / 16) / 4 ≡ x = omega arith in
    let ey : (x * 4 + y / 16) % 4 * 16 + (y % 16 * 16 + z / 4) / 16 ≡ y = omega arith in
    let ez : (y % 16 * 16 + z / 4) % 16 * 4 ≡ z = omega arith in
    record {
      written = λ more none. rw (none refl, parts, ex, ey, ez, sx, sy, sz) refl;
      fits = λ more fit. rw parts (fit_first (x * 4 + y / 16) ((y % 16 * 16 + z / 4) ∷ more) (omega arith) (fit_first (y % 16 * 16 + z / 4) more (omega arith) fit));
    }

three_group : (others : Bool) (a b c d : ℕ) (os : List ℕ)
    → three_octets (base64_digit a) (base64_digit b) (base64_digit c) (base64_digit d) ≡ Some os → Group others a b c d os
unfolding base64_text
three_group others a b c d os e =
    let (x, y, z, w, dx, dy, dz, dw, parts) = three_is (base64_digit a) (base64_digit b) (base64_digit c) (base64_digit d) os e in
    let (lx, sx) = digit_any a x dx in
    let (ly, sy) = digit_any b y dy in
    let (lz, sz) = digit_any c z dz in
    let (lw, sw) = digit_any d w dw in
    let ex : (x * 4 + y / 16) / 4 ≡ x = omega arith in
    let ey : (x * 4 + y / 16) % 4 * 16 + (y % 16 * 16 + z / 4) / 16 ≡ y = omega arith in
    let ez : (y % 16 * 16 + z / 4) % 16 * 4 + (z % 4 * 64 + w) / 64 ≡ z = omega arith in
    let ew : (z % 4 * 64 + w) % 64 ≡ w = omega arith in
    record {
      written = λ more none. rw (parts, ex, ey, ez, ew, sx, sy, sz, sw) refl;
      fits = λ more fit. rw parts (fit_first (x * 4 + y / 16) ((y % 16 * 16 + z / 4) ∷ (z % 4 * 64 + w) ∷ more) (omega arith)
          (fit_first (y % 16 * 16 + z / 4) ((z % 4 * 64 + w) ∷ more) (omega arith) (fit_first (z % 4 * 64 + w) more (omega arith) fit)));
    }

group_is : (others : Bool) (a b c d : ℕ) (os : List ℕ) → group_octets others a b c d ≡ Some os → Group others a b c d os
group_is true a b c d os e = three_group true a b c d os e
group_is false a b c d os e = elim (cases_Bool (d == filler)) [
  | inl last ↦
      let k = rw last at e in
      let dd : d ≡ filler = eqb-true d filler last in
      elim (cases_Bool (c == filler)) [
        | inl two ↦ let cd : c ≡ filler = eqb-true c filler two in rw (dd, cd) (one_group a b os (rw two at k))
        | inr one ↦ rw dd (two_group a b c os (rw one at k))
      ]
  | inr other ↦ three_group false a b c d os (rw other at e)
]

none_more : (t more : List ℕ) → base64_octets t ≡ Some more → is_some_text t ≡ false → more ≡ []
unfolding base64_octets
none_more [] more e h = cc e
none_more (c ∷ t) more e h = absurd (false≢true (sym h))

pub text_is : (t os : List ℕ) → base64_octets t ≡ Some os → (t ≡ base64_text os) × IsBytes os
unfolding base64_octets base64_text
text_is [] os e = let h : os ≡ [] = cc e in rw h (refl, none_fits)
text_is (a ∷ []) os e = cc e
text_is (a ∷ b ∷ []) os e = cc e
text_is (a ∷ b ∷ c ∷ []) os e = cc e
text_is (a ∷ b ∷ c ∷ d ∷ t) os e =
    let (first, more, group, rest, parts) = before_is (group_octets (is_some_text t) a b c d) (base64_octets t) os e in
    let g = group_is (is_some_text t) a b c d first group in
    let m = text_is t more rest in
    let end : is_some_text t ≡ false → more ≡ [] = λ h. none_more t more rest h in
    rw parts (ap (λ (u : List ℕ). a ∷ b ∷ c ∷ d ∷ u) m.0 ∙ sym (g.written more end), g.fits more m.1)

refused_by : (t : List ℕ) (o : Option (List ℕ)) (d : _) → IsBytes t → base64_octets t ≡ o → decode_of standard t ≡ Err d
    → ((b : List ℕ) → IsBytes b → (decode_of standard t ≡ Ok b) ↔ (t ≡ encode_of standard b)) → None ≡ o
refused_by t None d fits e failed strict = refl
refused_by t (Some os) d fits e failed strict =
    let m = text_is t os e in
    let same : t ≡ encode_of standard os = m.0 ∙ sym (standard_is os m.1) in
    let read = (strict os m.1).1 same in
    cc (sym failed ∙ read)

pub refused_is : (t : List ℕ) (e : DecodeAllocError) → IsBytes t → IsDecodeFailure standard t e → (e ≡ OutOfMemory → ⊥)
    → ((b : List ℕ) → IsBytes b → (decode_of standard t ≡ Ok b) ↔ (t ≡ encode_of standard b)) → None ≡ base64_octets t
refused_is t (Failed d) fits failed memory strict = refused_by t (base64_octets t) d fits refl failed strict
refused_is t OutOfMemory fits failed memory strict = absurd (memory refl)

pub decoded_is : (t os : List ℕ) → IsBytes os → t ≡ encode_of standard os → base64_octets t ≡ Some os
decoded_is t os fits e = ap base64_octets (e ∙ standard_is os fits) ∙ text_read os fits
