-- A text that has a value, and a canonical text, has nothing but visible ASCII characters: no white space, and
-- none that UTF-8 encodes in more than one byte.
use Rattle.std.proofs.Common.{◌≡◌, ℕ, suc, ◌^◌, ◌<◌, ◌≤◌, Bool, true, false, ◌&&◌, ◌||◌, List, [], ◌∷◌, ◌++◌, refl, ap, ◌∙◌, arith, inl, inr, Option, Some, None, ℤ, pos, negsuc}
use Rattle.std.specs.Prelude.{◌==◌, nat_le, decimal, codes, bytes_eq, unwrap_or, IsAscii}
use Rattle.std.specs.Fmt.{signed_decimal}
use Rattle.std.proofs.lemmas.Bool.{cases_Bool, leb-true, le-leb, ltb-true, and_parts, and_from, eqb-true, or_cases}
use Rattle.std.proofs.lemmas.Slice.Eq.{bytes_eq-Decides}
use Rattle.std.proofs.lemmas.Str.Ascii.{IsAscii-nil, IsAscii-cons}
use Rattle.exi_digits.specs.Digits.{is_digit, all_digits, has_any, fraction_of}
use Rattle.exi_digits.specs.Splits.{before, behind, is_either, is_mark}
use Rattle.exi_digits.proofs.Decimals.{all_digits-decimal, all_digits-fraction_of}
use Rattle.exi_names.specs.Wholes.{Number}
use Rattle.exi_numerals.specs.declared.decimal.Decimal.{Decimal}
use Rattle.exi_numerals.specs.declared.float.Float.{Float}
use Rattle.exi_numerals.specs.Integers.{behind_sign, integer_in, integer_text, integer_value, is_integer_text, sign_text}
use Rattle.exi_numerals.specs.Decimals.{decimal_of, decimal_text, decimal_value, fraction_digits, is_decimal_text, is_narrow, whole_digits}
use Rattle.exi_names.specs.Forms.{is_mantissa, is_special}
use Rattle.exi_numerals.specs.Floats.{exponent_in, exponent_part, float_text, float_value, joined, mantissa_in, mantissa_part, number_value, shifted, special_text, with_exponent, written_of}
use Rattle.exi_numerals.proofs.Parts.{in_range_is}

-- from `!` to `~`
abbrev pub is_visible : ℕ → Bool
is_visible c = nat_le 33 c && nat_le c 126

abbrev pub is_plain : List ℕ → Bool
is_plain [] = true
is_plain (c ∷ cs) = is_visible c && is_plain cs

pub plain-append : (a b : List ℕ) → is_plain a ≡ true → is_plain b ≡ true → is_plain (a ++ b) ≡ true
plain-append [] b p q = q
plain-append (c ∷ a) b p q =
    let h = and_parts (is_visible c) (is_plain a) p in
    and_from (is_visible c) (is_plain (a ++ b)) h.0 (plain-append a b h.1 q)

pub plain_ascii : (text : List ℕ) → is_plain text ≡ true → IsAscii text
plain_ascii [] p = IsAscii-nil
plain_ascii (c ∷ cs) p =
    let h = and_parts (is_visible c) (is_plain cs) p in
    let v = and_parts (nat_le 33 c) (nat_le c 126) h.0 in
    let high : c ≤ 126 = leb-true c 126 v.1 in
    IsAscii-cons c cs (omega arith) (plain_ascii cs h.1)

pub visible_digit : (c : ℕ) → is_digit c ≡ true → is_visible c ≡ true
visible_digit c d =
    let p = and_parts (nat_le 48 c) (nat_le c 57) d in
    let low : 48 ≤ c = leb-true 48 c p.0 in
    let high : c ≤ 57 = leb-true c 57 p.1 in
    and_from (nat_le 33 c) (nat_le c 126) (le-leb 33 c (omega arith)) (le-leb c 126 (omega arith))

pub plain_digits : (ds : List ℕ) → all_digits ds ≡ true → is_plain ds ≡ true
plain_digits [] all = refl
plain_digits (c ∷ cs) all =
    let p = and_parts (is_digit c) (all_digits cs) all in
    and_from (is_visible c) (is_plain cs) (visible_digit c p.0) (plain_digits cs p.1)

-- ---- canonical texts
plain_sign : (minus : Bool) → is_plain (sign_text minus) ≡ true
plain_sign true = refl
plain_sign false = refl

pub integer_text_plain : (n : Number) → n.size < 2 ^ 128 → is_plain (integer_text n) ≡ true
integer_text_plain n lt = plain-append (sign_text n.minus) (decimal n.size) (plain_sign n.minus) (plain_digits (decimal n.size) (all_digits-decimal n.size lt))

pub decimal_text_plain : (d : Decimal) → d.whole < 2 ^ 128 → d.back < 2 ^ 128 → is_plain (decimal_text d) ≡ true
decimal_text_plain d w b =
    plain-append (sign_text d.minus ++ decimal d.whole) (46 ∷ fraction_of d.back)
    (plain-append (sign_text d.minus) (decimal d.whole) (plain_sign d.minus) (plain_digits (decimal d.whole) (all_digits-decimal d.whole w)))
    (plain_digits (fraction_of d.back) (all_digits-fraction_of d.back b))

plain_signed : (z : ℤ) → is_mantissa z ≡ true → is_plain (signed_decimal z) ≡ true
plain_signed (pos n) h = let l : n < 2 ^ 63 = ltb-true n (2 ^ 63) h in plain_digits (decimal n) (all_digits-decimal n (omega arith))
plain_signed (negsuc n) h = let l : n < 2 ^ 63 = ltb-true n (2 ^ 63) h in plain_digits (decimal (suc n)) (all_digits-decimal (suc n) (omega arith))

plain_special : (m : ℤ) → is_plain (special_text m) ≡ true
plain_special (pos n) =
    elim (cases_Bool (n == 1)) [
      | inl one ↦ rw one refl
      | inr other ↦ rw other refl
    ]
plain_special (negsuc n) =
    elim (cases_Bool (n == 0)) [
      | inl one ↦ rw one refl
      | inr other ↦ rw other refl
    ]

-- both are numbers of 64 bits
pub float_text_plain : (f : Float) → is_mantissa f.mantissa ≡ true → is_mantissa f.exponent ≡ true → is_plain (float_text f) ≡ true
float_text_plain f m e =
    elim (cases_Bool (is_special f.exponent)) [
      | inl special ↦ rw special (plain_special f.mantissa)
      | inr plain ↦ rw plain (plain-append (signed_decimal f.mantissa) (69 ∷ signed_decimal f.exponent) (plain_signed f.mantissa m) (plain_signed f.exponent e))
    ]

-- ---- texts that have a value
plain_signed_text : (text : List ℕ) → is_plain (behind_sign text) ≡ true → is_plain text ≡ true
plain_signed_text [] p = refl
plain_signed_text (c ∷ cs) p =
    elim (cases_Bool (c == 45 || c == 43)) [
      | inr other ↦ rw other at p
      | inl sign ↦
          let rest : is_plain cs ≡ true = rw sign at p in
          elim (or_cases (c == 45) (c == 43) sign) [
            | inl minus ↦ let e : c ≡ 45 = eqb-true c 45 minus in rw (e, rest) refl
            | inr plus ↦ let e : c ≡ 43 = eqb-true c 43 plus in rw (e, rest) refl
          ]
    ]

plain_parts : (test : ℕ → Bool) (text : List ℕ) → ((c : ℕ) → test c ≡ true → is_visible c ≡ true) → is_plain (before test text) ≡ true → is_plain (unwrap_or (behind test text) []) ≡ true → is_plain text ≡ true
plain_parts test [] v p q = refl
plain_parts test (c ∷ cs) v p q =
    elim (cases_Bool (test c)) [
      | inl mark ↦ let rest : is_plain cs ≡ true = rw mark at q in and_from (is_visible c) (is_plain cs) (v c mark) rest
      | inr other ↦
          let front : is_visible c && is_plain (before test cs) ≡ true = rw other at p in
          let rest : is_plain (unwrap_or (behind test cs) []) ≡ true = rw other at q in
          let h = and_parts (is_visible c) (is_plain (before test cs)) front in
          and_from (is_visible c) (is_plain cs) h.0 (plain_parts test cs v h.1 rest)
    ]

visible_point : (c : ℕ) → is_mark 46 c ≡ true → is_visible c ≡ true
visible_point c e = let k : c ≡ 46 = eqb-true c 46 e in rw k refl

visible_e : (c : ℕ) → is_either 69 101 c ≡ true → is_visible c ≡ true
visible_e c e =
    elim (or_cases (c == 69) (c == 101) e) [
      | inl big ↦ let k : c ≡ 69 = eqb-true c 69 big in rw k refl
      | inr small ↦ let k : c ≡ 101 = eqb-true c 101 small in rw k refl
    ]

form_plain : (text : List ℕ) → is_integer_text text ≡ true → is_plain text ≡ true
form_plain text form = plain_signed_text text (plain_digits (behind_sign text) (and_parts (has_any (behind_sign text)) (all_digits (behind_sign text)) form).1)

pub integer_value_plain : (text : List ℕ) (n : Number) → integer_value text ≡ Some n → is_plain text ≡ true
integer_value_plain text n e =
    elim (cases_Bool (is_integer_text text)) [
      | inl form ↦ form_plain text form
      | inr form ↦ let k : integer_value text ≡ None = rw form refl in absurd (cc)
    ]

pub integer_plain : (range : Number → Bool) (text : List ℕ) (n : Number) → integer_in range text ≡ Some n → is_plain text ≡ true
integer_plain range text n e = integer_value_plain text n (in_range_is range (integer_value text) n e).0

decimal_form_plain : (text : List ℕ) → is_decimal_text text ≡ true → is_plain text ≡ true
decimal_form_plain text form =
    let p = and_parts (all_digits (whole_digits text) && all_digits (fraction_digits text)) (has_any (whole_digits text ++ fraction_digits text)) form in
    let q = and_parts (all_digits (whole_digits text)) (all_digits (fraction_digits text)) p.0 in
    plain_signed_text text (plain_parts (is_mark 46) (behind_sign text) visible_point (plain_digits (whole_digits text) q.0) (plain_digits (fraction_digits text) q.1))

pub decimal_plain : (text : List ℕ) (d : Decimal) → decimal_value text ≡ Some d → is_plain text ≡ true
decimal_plain text d e =
    elim (cases_Bool (is_decimal_text text && is_narrow (decimal_of text))) [
      | inl form ↦ decimal_form_plain text (and_parts (is_decimal_text text) (is_narrow (decimal_of text)) form).0
      | inr form ↦ let k : decimal_value text ≡ None = rw form refl in absurd (cc)
    ]

written_plain : (t : List ℕ) (o : Option Number) → integer_value t ≡ o → (count : ℕ) (e : ℤ) → shifted (written_of o) count ≡ Some e → is_plain t ≡ true
written_plain t None k count e h = absurd (let n : None ≡ Some e = h in cc)
written_plain t (Some n) k count e h = integer_value_plain t n k

exponent_plain : (o : Option (List ℕ)) (count : ℕ) (e : ℤ) → exponent_in o count ≡ Some e → is_plain (unwrap_or o []) ≡ true
exponent_plain None count e h = refl
exponent_plain (Some t) count e h = written_plain t (integer_value t) refl count e h

mantissa_plain : (text : List ℕ) (m : ℤ × ℕ) → mantissa_in text ≡ Some m → is_plain text ≡ true
mantissa_plain text m e =
    elim (cases_Bool (is_decimal_text text)) [
      | inl form ↦ decimal_form_plain text form
      | inr form ↦ let k : mantissa_in text ≡ None = rw form refl in absurd (cc)
    ]

with_plain : (o : Option ℤ) (m : ℤ) (f : Float) → with_exponent m o ≡ Some f → (e : ℤ) × (o ≡ Some e)
with_plain None m f h = absurd (let k : None ≡ Some f = h in cc)
with_plain (Some e) m f h = (e, refl)

parts_plain : (o : Option (ℤ × ℕ)) (t : Option (List ℕ)) (f : Float) → joined o t ≡ Some f → ((m : ℤ × ℕ) × (o ≡ Some m)) × (is_plain (unwrap_or t []) ≡ true)
parts_plain None t f h = absurd (let k : None ≡ Some f = h in cc)
parts_plain (Some m) t f h =
    let w = with_plain (exponent_in t m.1) m.0 f h in
    ((m, refl), exponent_plain t m.1 w.0 w.1)

pub number_plain : (text : List ℕ) (f : Float) → number_value text ≡ Some f → is_plain text ≡ true
number_plain text f e =
    let p = parts_plain (mantissa_in (mantissa_part text)) (exponent_part text) f e in
    plain_parts (is_either 69 101) text visible_e (mantissa_plain (mantissa_part text) p.0.0 p.0.1) p.1

plain_word : (text word : List ℕ) → bytes_eq text word ≡ true → is_plain word ≡ true → is_plain text ≡ true
plain_word text word same p = ap is_plain ((bytes_eq-Decides text word).0 same) ∙ p

pub float_plain : (text : List ℕ) (f : Float) → float_value text ≡ Some f → is_plain text ≡ true
float_plain text f e =
    elim (cases_Bool (bytes_eq text (codes "INF"))) [
      | inl inf ↦ plain_word text (codes "INF") inf refl
      | inr not_inf ↦ elim (cases_Bool (bytes_eq text (codes "-INF"))) [
        | inl inf ↦ plain_word text (codes "-INF") inf refl
        | inr not_minus ↦ elim (cases_Bool (bytes_eq text (codes "NaN"))) [
          | inl nan ↦ plain_word text (codes "NaN") nan refl
          | inr not_nan ↦ number_plain text f (rw (not_inf, not_minus, not_nan) at e)
        ]
      ]
    ]
