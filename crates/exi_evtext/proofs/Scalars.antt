-- The canonical text of a value that some datatype can spell has that value again, under the word of its kind.
use Rattle.std.proofs.Common.{◌≡◌, ℕ, ℤ, pos, negsuc, ◌^◌, ◌<◌, ◌≤◌, Bool, true, false, ◌&&◌, leb, eqb, List, [], ◌∷◌, ◌++◌, length, Option, Some, refl, sym, ap, ◌∙◌, inl, inr, append_assoc, arith}
use Rattle.std.specs.Prelude.{decimal, bytes_eq, int_le, codes, unwrap_or}
use Rattle.std.specs.Fmt.{signed_decimal}
use Rattle.std.proofs.lemmas.Bool.{and_parts, cases_Bool, cases_eq, eqb-true, leb-true, lt-ltb, ltb-true, ne_eqb}
use Rattle.std.proofs.lemmas.List.{append-nil}
use Rattle.std.proofs.lemmas.Slice.Eq.{bytes_eq-Decides}
use Rattle.exi_names.specs.Wholes.{Number, number}
use Rattle.exi_names.specs.Seen as shape
use Rattle.exi_names.specs.Seen.{Value}
use Rattle.exi_digits.specs.Digits.{all_digits, fraction_of, has_any, is_digit}
use Rattle.exi_digits.specs.Splits.{before, behind, is_mark}
use Rattle.exi_digits.proofs.Decimals.{all_digits-decimal, all_digits-fraction_of, back_of-fraction_of, decimal_any, has_any-decimal, number_in-decimal, number_of-decimal}
use Rattle.exi_digits.proofs.Splitting.{before_mark, behind_mark, digits_pass_none}
use Rattle.exi_names.specs.Forms.{is_exponent, is_integer, is_mantissa, is_special}
use Rattle.exi_numerals.specs.Integers.{behind_sign, has_minus, in_range, integer_in, integer_text, integer_value, sign_text}
use Rattle.exi_numerals.specs.Decimals.{decimal_text, decimal_value, fraction_digits, whole_digits}
use Rattle.exi_numerals.specs.Floats.{float_text, float_value}
use Rattle.exi_numerals.proofs.Parts.{in_range_some}
use Rattle.exi_numerals.proofs.Kept.{integer_near, number_is_float, number_kept, unsigned_near}
use Rattle.exi_lexical.specs.Binaries.{base64_text, hex_text}
use Rattle.exi_lexical.specs.Values.{boolean_text, boolean_value}
use Rattle.exi_lexical.proofs.Hexes.{hex_read}
use Rattle.exi_lexical.proofs.Sixes.{text_read}
use Rattle.exi_evtext.proofs.Plain.{clean, clean_append, clean_signed, clean_special}
use Rattle.exi_evtext.specs.Reading.{is_spelled, number_of, scalar_of}
use Rattle.exi_evtext.specs.Spelling.{AreOctets, IsInteger, is_float, is_sign}

pub same_bytes : (t : List ℕ) → bytes_eq t t ≡ true
same_bytes t = (bytes_eq-Decides t t).1 refl

-- ---- digits in front
digit_front : (c : ℕ) (ds : List ℕ) → all_digits (c ∷ ds) ≡ true → is_digit c ≡ true
digit_front c ds all = (and_parts (is_digit c) (all_digits ds) all).0

no_sign : (c : ℕ) → is_digit c ≡ true → (eqb c 45 ≡ false) × (eqb c 43 ≡ false)
no_sign c d =
    let p = and_parts (leb 48 c) (leb c 57) d in
    let low : 48 ≤ c = leb-true 48 c p.0 in
    (ne_eqb c 45 (λ e. omega (arith, e)), ne_eqb c 43 (λ e. omega (arith, e)))

-- a sign in front of digits, with anything behind them
sign_is : (minus : Bool) (ds more : List ℕ) → 0 < length ds → all_digits ds ≡ true → (has_minus (sign_text minus ++ (ds ++ more)) ≡ minus) × (behind_sign (sign_text minus ++ (ds ++ more)) ≡ ds ++ more)
sign_is minus [] more any all = absurd (omega arith)
sign_is true (c ∷ ds) more any all = (refl, refl)
sign_is false (c ∷ ds) more any all =
    let p = no_sign c (digit_front c ds all) in
    (p.0, rw (p.0, p.1) refl)

-- ---- integers
written_number : (minus : Bool) (n : ℕ) → n < 2 ^ 128 → integer_value (sign_text minus ++ decimal n) ≡ Some (number minus n)
written_number true n lt = rw (has_any-decimal n lt, all_digits-decimal n lt, number_of-decimal n lt) refl
written_number false n lt =
    let p = sign_is false (decimal n) [] (decimal_any n lt) (all_digits-decimal n lt) in
    let front : has_minus (decimal n) ≡ false = ap has_minus (sym (append-nil (decimal n))) ∙ p.0 in
    let rest : behind_sign (decimal n) ≡ decimal n = ap behind_sign (sym (append-nil (decimal n))) ∙ p.1 ∙ append-nil (decimal n) in
    rw (front, rest, has_any-decimal n lt, all_digits-decimal n lt, number_of-decimal n lt) refl

pub spelled_near : (n : Number) → is_spelled n ≡ true → n.size < 2 ^ 128
spelled_near n h = elim (cases_Bool (is_integer n)) [
  | inl signed ↦ integer_near n signed
  | inr other ↦ unsigned_near n (rw other at h)
]

pub integer_read : (n : Number) → IsInteger n → integer_in is_spelled (integer_text n) ≡ Some n
integer_read n h =
    ap (in_range is_spelled) (written_number n.minus n.size (spelled_near n h.1) ∙ ap (λ (x : Number). Some x) (sym h.0)) ∙ in_range_some is_spelled n h.1

-- ---- decimals
no_point : (c : ℕ) → is_digit c ≡ true → is_mark 46 c ≡ false
no_point c d =
    let p = and_parts (leb 48 c) (leb c 57) d in
    let low : 48 ≤ c = leb-true 48 c p.0 in
    ne_eqb c 46 (λ e. omega (arith, e))

any_of_both : (a b : List ℕ) → 0 < length a → has_any (a ++ b) ≡ true
any_of_both [] b any = absurd (omega arith)
any_of_both (c ∷ a) b any = refl

pub decimal_read : (minus : Bool) (whole back : ℕ) → whole < 2 ^ 128 → back < 2 ^ 128 → decimal_value (decimal_text (record { minus = minus; whole = whole; back = back })) ≡ Some (record { minus = minus; whole = whole; back = back })
decimal_read minus whole back w b =
    let ds = decimal whole in
    let fs = fraction_of back in
    let all = all_digits-decimal whole w in
    let any = decimal_any whole w in
    let assoc = append_assoc (sign_text minus) ds (46 ∷ fs) in
    let p = sign_is minus ds (46 ∷ fs) any all in
    let none = digits_pass_none (is_mark 46) ds no_point all in
    let front : has_minus (sign_text minus ++ ds ++ 46 ∷ fs) ≡ minus = ap has_minus assoc ∙ p.0 in
    let rest : behind_sign (sign_text minus ++ ds ++ 46 ∷ fs) ≡ ds ++ 46 ∷ fs = ap behind_sign assoc ∙ p.1 in
    let first : whole_digits (sign_text minus ++ ds ++ 46 ∷ fs) ≡ ds = ap (before (is_mark 46)) rest ∙ before_mark (is_mark 46) ds 46 fs none refl in
    let second : fraction_digits (sign_text minus ++ ds ++ 46 ∷ fs) ≡ fs = ap (λ (t : List ℕ). unwrap_or (behind (is_mark 46) t) []) rest ∙ ap (λ (o : Option (List ℕ)). unwrap_or o []) (behind_mark (is_mark 46) ds 46 fs none refl) in
    rw (front, first, second, all, all_digits-fraction_of back b, any_of_both ds fs any, number_of-decimal whole w, back_of-fraction_of back b, lt-ltb whole (2 ^ 128) w, lt-ltb back (2 ^ 128) b) refl

-- ---- floats
special_read : (m : ℤ) → is_sign m ≡ true → float_value (float_text (record { mantissa = m; exponent = negsuc 16383 })) ≡ Some (record { mantissa = m; exponent = negsuc 16383 })
special_read (pos n) h =
    let lt : n < 2 = ltb-true n 2 h in
    elim (cases_eq n 0) [
      | inl e ↦ rw e refl
      | inr e ↦ let one : n ≡ 1 = omega (arith, e) in rw one refl
    ]
special_read (negsuc n) h = rw (eqb-true n 0 h) refl

number_read : (m e : ℤ) → is_special e ≡ false → is_mantissa m ≡ true → is_exponent e ≡ true → float_value (float_text (record { mantissa = m; exponent = e })) ≡ Some (record { mantissa = m; exponent = e })
number_read m e plain h g =
    let t : float_text (record { mantissa = m; exponent = e }) ≡ signed_decimal m ++ 69 ∷ signed_decimal e = rw plain refl in
    ap float_value t ∙ number_is_float (signed_decimal m ++ 69 ∷ signed_decimal e) (record { mantissa = m; exponent = e }) (number_kept m e h g)

is_number : (m e : ℤ) → is_special e ≡ false → is_float m e ≡ true → (is_mantissa m ≡ true) × (is_exponent e ≡ true)
is_number m e plain h = let k : (is_mantissa m && is_exponent e) ≡ true = rw plain at h in and_parts (is_mantissa m) (is_exponent e) k

pub float_read : (m e : ℤ) → is_float m e ≡ true → float_value (float_text (record { mantissa = m; exponent = e })) ≡ Some (record { mantissa = m; exponent = e })
float_read m (pos n) h = let p = is_number m (pos n) refl h in number_read m (pos n) refl p.0 p.1
float_read m (negsuc n) h = elim (cases_Bool (eqb n 16383)) [
  | inl special ↦ let sign : is_sign m ≡ true = rw special at h in rw (eqb-true n 16383 special) (special_read m sign)
  | inr plain ↦ let p = is_number m (negsuc n) plain h in number_read m (negsuc n) plain p.0 p.1
]

exponent_narrow : (e : ℤ) → is_exponent e ≡ true → is_mantissa e ≡ true
exponent_narrow (pos n) h = let l : n ≤ 16383 = leb-true n 16383 (and_parts (int_le (negsuc 16382) (pos n)) (leb n 16383) h).1 in lt-ltb n (2 ^ 63) (omega arith)
exponent_narrow (negsuc n) h = let l : n ≤ 16382 = leb-true n 16382 (and_parts (leb n 16382) (int_le (negsuc n) (pos 16383)) h).0 in lt-ltb n (2 ^ 63) (omega arith)

clean_number : (m e : ℤ) → is_special e ≡ false → is_float m e ≡ true → clean (float_text (record { mantissa = m; exponent = e })) ≡ true
clean_number m e plain h =
    let p = is_number m e plain h in
    rw plain (clean_append (signed_decimal m) (69 ∷ signed_decimal e) (clean_signed m p.0) (clean_signed e (exponent_narrow e p.1)))

pub clean_float : (m e : ℤ) → is_float m e ≡ true → clean (float_text (record { mantissa = m; exponent = e })) ≡ true
clean_float m (pos n) h = clean_number m (pos n) refl h
clean_float m (negsuc n) h = elim (cases_Bool (eqb n 16383)) [
  | inl special ↦ rw special (clean_special m)
  | inr plain ↦ clean_number m (negsuc n) plain h
]

-- ---- by their words
pub int_of_word : (n : Number) → IsInteger n → scalar_of (codes "int") (integer_text n) ≡ Some (shape.integer n)
unfolding scalar_of
int_of_word n h = rw (integer_read n h, same_bytes (integer_text n)) refl

pub dec_of_word : (minus : Bool) (whole back : ℕ) → whole < 2 ^ 128 → back < 2 ^ 128 → scalar_of (codes "dec") (decimal_text (record { minus = minus; whole = whole; back = back })) ≡ Some (shape.decimal minus whole back)
unfolding scalar_of
dec_of_word minus whole back w b = rw (decimal_read minus whole back w b, same_bytes (decimal_text (record { minus = minus; whole = whole; back = back }))) refl

pub flo_of_word : (m e : ℤ) → is_float m e ≡ true → scalar_of (codes "flo") (float_text (record { mantissa = m; exponent = e })) ≡ Some (shape.float m e)
unfolding scalar_of
flo_of_word m e h = rw (float_read m e h, same_bytes (float_text (record { mantissa = m; exponent = e }))) refl

pub hex_of_word : (octets : List ℕ) → AreOctets octets → scalar_of (codes "hex") (hex_text octets) ≡ Some (shape.binary true octets)
unfolding scalar_of
hex_of_word octets h = rw (hex_read octets h, same_bytes (hex_text octets)) refl

pub base64_of_word : (octets : List ℕ) → AreOctets octets → scalar_of (codes "base64") (base64_text octets) ≡ Some (shape.binary false octets)
unfolding scalar_of
base64_of_word octets h = rw (text_read octets (λ i. h i)) refl

pub bool_of_word : (truth digit : Bool) → scalar_of (codes "bool") (boolean_text truth digit) ≡ Some (shape.boolean truth digit)
unfolding scalar_of boolean_value
bool_of_word true true = refl
bool_of_word true false = refl
bool_of_word false true = refl
bool_of_word false false = refl

-- ---- numbers without a bound of their own
pub number_again : (n : ℕ) → n < 2 ^ 128 → number_of (decimal n) ≡ Some n
unfolding number_of
number_again n lt = rw (number_in-decimal n lt, same_bytes (decimal n)) refl
