-- The canonical text of a value that a text has, has that value.
use Rattle.std.proofs.Common.{◌≡◌, ℕ, zero, suc, ◌^◌, ◌<◌, ◌≤◌, Bool, true, false, ◌&&◌, List, [], ◌∷◌, ◌++◌, length, refl, sym, ap, ◌∙◌, subst, append_assoc, arith, inl, inr, Option, Some, None, ℤ, pos, negsuc, leb, ltb, eqb}
use Rattle.std.specs.Prelude.{◌==◌, not, ◌-ℤ◌, decimal, codes, bytes_eq, unwrap_or, FitsSigned, int_le}
use Rattle.std.specs.Fmt.{signed_decimal}
use Rattle.std.specs.Int.{w128}
use Rattle.std.proofs.lemmas.Int.{ints}
use Rattle.std.proofs.lemmas.List.{append-nil}
use Rattle.std.proofs.lemmas.Bool.{cases_Bool, lt-ltb, ltb-true, leb-true, and_parts, ne_eqb, or_from, eqb-true, false≢true}
use Rattle.std.proofs.lemmas.Slice.Eq.{bytes_eq-Decides}
use Rattle.exi_digits.specs.Digits.{is_digit, all_digits, has_any, number_of, fraction_of}
use Rattle.exi_digits.specs.Splits.{before, behind, is_either, is_mark}
use Rattle.exi_digits.proofs.Decimals.{all_digits-decimal, all_digits-fraction_of, back_of-fraction_of, decimal_any, has_any-decimal, number_of-decimal}
use Rattle.exi_digits.proofs.Splitting.{before_all, before_mark, behind_mark, behind_none, digits_pass_none, none_passes}
use Rattle.exi_names.specs.Wholes.{Number, number}
use Rattle.exi_numerals.specs.declared.decimal.Decimal.{Decimal}
use Rattle.exi_numerals.specs.declared.float.Float.{Float}
use Rattle.exi_names.specs.Forms.{HasNoMinusZero, int_of, is_exponent, is_float, is_integer, is_mantissa, is_small, is_special, is_unsigned, is_wide, is_within, is_word, no_number}
use Rattle.exi_numerals.specs.Integers.{behind_sign, has_minus, in_range, integer_of, integer_value, is_integer_text, sign_text}
use Rattle.exi_numerals.specs.Decimals.{decimal_of, decimal_value, fraction_digits, is_decimal_text, is_narrow, whole_digits}
use Rattle.exi_numerals.specs.Floats.{exponent_in, exponent_part, float_text, float_value, held, joined, mantissa_in, mantissa_of, mantissa_part, number_value, shifted, with_exponent, written_exponent, written_of}
use Rattle.exi_numerals.specs.Laws.{DecimalIsInRange, DecimalIsKept, DecimalIsRead, FloatIsInRange, FloatIsKept, FloatIsRead, IntegerIsInRange, IntegerIsKept, IntegerIsRead, SmallIsKept, SmallIsRead}
use Rattle.exi_numerals.proofs.Parts.{in_range_is, in_range_some, int_of-number}

-- ---- signs
no_sign : (c : ℕ) → is_digit c ≡ true → (c == 45 ≡ false) × (c == 43 ≡ false)
no_sign c d =
    let p = and_parts (leb 48 c) (leb c 57) d in
    let low : 48 ≤ c = leb-true 48 c p.0 in
    (ne_eqb c 45 (λ e. omega (arith, e)), ne_eqb c 43 (λ e. omega (arith, e)))

-- the first one is a digit, where there is one
abbrev starts_with_digit : List ℕ → Bool
starts_with_digit [] = true
starts_with_digit (c ∷ cs) = is_digit c

digits_start : (ds : List ℕ) → all_digits ds ≡ true → starts_with_digit ds ≡ true
digits_start [] all = refl
digits_start (c ∷ cs) all = (and_parts (is_digit c) (all_digits cs) all).0

starts_before : (ds more : List ℕ) → 0 < length ds → starts_with_digit ds ≡ true → starts_with_digit (ds ++ more) ≡ true
starts_before [] more any d = absurd (omega arith)
starts_before (c ∷ cs) more any d = d

pub minus_of : (minus : Bool) (ds : List ℕ) → starts_with_digit ds ≡ true → has_minus (sign_text minus ++ ds) ≡ minus
minus_of true ds d = refl
minus_of false [] d = refl
minus_of false (c ∷ cs) d = (no_sign c d).0

pub behind_sign_of : (minus : Bool) (ds : List ℕ) → starts_with_digit ds ≡ true → behind_sign (sign_text minus ++ ds) ≡ ds
behind_sign_of true ds d = refl
behind_sign_of false [] d = refl
behind_sign_of false (c ∷ cs) d = let p = no_sign c d in rw (p.0, p.1) refl

-- ---- integers
written_number : (minus : Bool) (n : ℕ) → n < 2 ^ 128 → integer_value (sign_text minus ++ decimal n) ≡ Some (number minus n)
written_number minus n lt =
    let start = digits_start (decimal n) (all_digits-decimal n lt) in
    rw (behind_sign_of minus (decimal n) start, minus_of minus (decimal n) start, has_any-decimal n lt, all_digits-decimal n lt, number_of-decimal n lt) refl

no_minus_zero : (minus : Bool) (n : ℕ) → HasNoMinusZero (number minus n)
no_minus_zero minus zero e = refl
no_minus_zero minus (suc n) e = absurd (omega (arith, e))

number_parts : (minus : Bool) (n : ℕ) → (n ≡ 0 → minus ≡ false) → number minus n ≡ record { minus = minus; size = n }
number_parts minus zero h = let e = sym (h refl) in λ i. record { minus = e i; size = zero }
number_parts minus (suc n) h = refl

number_is : (n : Number) → HasNoMinusZero n → number n.minus n.size ≡ n
number_is n h = number_parts n.minus n.size h

integer_read : (text : List ℕ) (n : Number) → integer_value text ≡ Some n → HasNoMinusZero n
integer_read text n e =
    elim (cases_Bool (is_integer_text text)) [
      | inl form ↦
          let k : integer_value text ≡ Some (integer_of text) = rw form refl in
          let same : integer_of text ≡ n = cc in
          subst HasNoMinusZero same (no_minus_zero (has_minus text) (number_of (behind_sign text)))
      | inr form ↦ let k : integer_value text ≡ None = rw form refl in absurd (cc)
    ]

pub integer_ranged : (range : Number → Bool) → IntegerIsInRange range
integer_ranged range text n e =
    let p = in_range_is range (integer_value text) n e in
    (integer_read text n p.0, p.1)

pub integer_again : (range : Number → Bool) → ((n : Number) → range n ≡ true → n.size < 2 ^ 128) → IntegerIsRead range
integer_again range near n plain r =
    ap (in_range range) (written_number n.minus n.size (near n r) ∙ ap (λ (x : Number). Some x) (number_is n plain)) ∙ in_range_some range n r

pub integer_kept : (range : Number → Bool) → ((n : Number) → range n ≡ true → n.size < 2 ^ 128) → IntegerIsKept range
integer_kept range near text n e =
    let p = integer_ranged range text n e in
    integer_again range near n p.0 p.1

pub within_near : (least : ℤ) (count : ℕ) (n : Number) → is_within least count n ≡ true → n.size < 2 ^ 128
within_near least count n h = ltb-true n.size (2 ^ 128) (and_parts (is_wide n) (is_small least count n) h).0

pub small_again : SmallIsRead
small_again least count = integer_again (is_within least count) (within_near least count)

pub unsigned_near : (n : Number) → is_unsigned n ≡ true → n.size < 2 ^ 128
unsigned_near n e = ltb-true n.size (2 ^ 128) (and_parts (not n.minus) (ltb n.size (2 ^ 128)) e).1

pub integer_near : (n : Number) → is_integer n ≡ true → n.size < 2 ^ 128
integer_near n e =
    elim (cases_Bool n.minus) [
      | inl minus ↦
          let h : leb n.size (2 ^ 127) ≡ true = rw minus at e in
          let l : n.size ≤ 2 ^ 127 = leb-true n.size (2 ^ 127) h in
          omega arith
      | inr plus ↦
          let h : ltb n.size (2 ^ 127) ≡ true = rw plus at e in
          let l : n.size < 2 ^ 127 = ltb-true n.size (2 ^ 127) h in
          omega arith
    ]

pub small_near : (least : ℤ) (count : ℕ) → FitsSigned w128 least → count < 2 ^ 16 → (n : Number) → is_small least count n ≡ true → n.size < 2 ^ 128
small_near least count fits few n e = grind (arith, ints)

pub small_kept : SmallIsKept
small_kept least count fits few = integer_kept (is_small least count) (small_near least count fits few)

-- ---- decimals
no_point : (c : ℕ) → is_digit c ≡ true → is_mark 46 c ≡ false
no_point c d =
    let p = and_parts (leb 48 c) (leb c 57) d in
    let low : 48 ≤ c = leb-true 48 c p.0 in
    ne_eqb c 46 (λ e. omega (arith, e))

pointed : (minus : Bool) (whole fraction : List ℕ) → 0 < length whole → all_digits whole ≡ true → (has_minus (sign_text minus ++ whole ++ 46 ∷ fraction) ≡ minus) × (whole_digits (sign_text minus ++ whole ++ 46 ∷ fraction) ≡ whole) × (fraction_digits (sign_text minus ++ whole ++ 46 ∷ fraction) ≡ fraction)
pointed minus whole fraction any all =
    let start = starts_before whole (46 ∷ fraction) any (digits_start whole all) in
    let none = digits_pass_none (is_mark 46) whole no_point all in
    let text = append_assoc (sign_text minus) whole (46 ∷ fraction) in
    let rest : behind_sign (sign_text minus ++ whole ++ 46 ∷ fraction) ≡ whole ++ 46 ∷ fraction = ap behind_sign text ∙ behind_sign_of minus (whole ++ 46 ∷ fraction) start in (
      ap has_minus text ∙ minus_of minus (whole ++ 46 ∷ fraction) start,
      ap (before (is_mark 46)) rest ∙ before_mark (is_mark 46) whole 46 fraction none refl,
      ap (λ (t : List ℕ). unwrap_or (behind (is_mark 46) t) []) rest ∙ ap (λ (o : Option (List ℕ)). unwrap_or o []) (behind_mark (is_mark 46) whole 46 fraction none refl),
    )

any_of_both : (a b : List ℕ) → 0 < length a → has_any (a ++ b) ≡ true
any_of_both [] b any = absurd (omega arith)
any_of_both (c ∷ a) b any = refl

pub decimal_read : DecimalIsInRange
decimal_read text d e =
    elim (cases_Bool (is_decimal_text text && is_narrow (decimal_of text))) [
      | inl form ↦
          let k : decimal_value text ≡ Some (decimal_of text) = rw form refl in
          let same : decimal_of text ≡ d = cc in
          subst (λ (x : Decimal). is_narrow x ≡ true) same (and_parts (is_decimal_text text) (is_narrow (decimal_of text)) form).1
      | inr form ↦ let k : decimal_value text ≡ None = rw form refl in absurd (cc)
    ]

pub decimal_again : DecimalIsRead
decimal_again d narrow =
    let both = and_parts (ltb d.whole (2 ^ 128)) (ltb d.back (2 ^ 128)) narrow in
    let w : d.whole < 2 ^ 128 = ltb-true d.whole (2 ^ 128) both.0 in
    let b : d.back < 2 ^ 128 = ltb-true d.back (2 ^ 128) both.1 in
    let p = pointed d.minus (decimal d.whole) (fraction_of d.back) (decimal_any d.whole w) (all_digits-decimal d.whole w) in
    rw (p.0, p.1, p.2, all_digits-decimal d.whole w, all_digits-fraction_of d.back b, any_of_both (decimal d.whole) (fraction_of d.back) (decimal_any d.whole w), number_of-decimal d.whole w, back_of-fraction_of d.back b, both.0, both.1) refl

pub decimal_kept : DecimalIsKept
decimal_kept text d e = decimal_again d (decimal_read text d e)

-- ---- floats
no_e : (c : ℕ) → is_digit c ≡ true → is_either 69 101 c ≡ false
no_e c d =
    let p = and_parts (leb 48 c) (leb c 57) d in
    let high : c ≤ 57 = leb-true c 57 p.1 in
    or_from (eqb c 69) (eqb c 101) (ne_eqb c 69 (λ e. omega (arith, e))) (ne_eqb c 101 (λ e. omega (arith, e)))

signed_e : (minus : Bool) (n : ℕ) → n < 2 ^ 128 → none_passes (is_either 69 101) (sign_text minus ++ decimal n) ≡ true
signed_e true n lt = digits_pass_none (is_either 69 101) (decimal n) no_e (all_digits-decimal n lt)
signed_e false n lt = digits_pass_none (is_either 69 101) (decimal n) no_e (all_digits-decimal n lt)

-- a mantissa without a point
plain : (minus : Bool) (n : ℕ) → n < 2 ^ 128 → is_mantissa (int_of (number minus n)) ≡ true → mantissa_in (sign_text minus ++ decimal n) ≡ Some (int_of (number minus n), 0)
plain minus n lt fits =
    let start = digits_start (decimal n) (all_digits-decimal n lt) in
    let none = digits_pass_none (is_mark 46) (decimal n) no_point (all_digits-decimal n lt) in
    let rest = behind_sign_of minus (decimal n) start in
    let whole : whole_digits (sign_text minus ++ decimal n) ≡ decimal n = ap (before (is_mark 46)) rest ∙ before_all (is_mark 46) (decimal n) none in
    let fraction : fraction_digits (sign_text minus ++ decimal n) ≡ [] = ap (λ (t : List ℕ). unwrap_or (behind (is_mark 46) t) []) rest ∙ ap (λ (o : Option (List ℕ)). unwrap_or o []) (behind_none (is_mark 46) (decimal n) none) in
    rw (whole, fraction, append-nil (decimal n), minus_of minus (decimal n) start, all_digits-decimal n lt, has_any-decimal n lt, number_of-decimal n lt, fits) refl

-- a number by its sign and magnitude
abbrev is_below : ℤ → Bool
is_below (pos n) = true
is_below (negsuc n) = false

sign_parts : (z : ℤ) → is_mantissa z ≡ true → (minus : Bool) × (n : ℕ) × (signed_decimal z ≡ sign_text minus ++ decimal n) × (int_of (number minus n) ≡ z) × (n < 2 ^ 128)
sign_parts (pos n) fits = let l : n < 2 ^ 63 = ltb-true n (2 ^ 63) fits in (false, n, refl, int_of-number false n, omega arith)
sign_parts (negsuc n) fits = let l : n < 2 ^ 63 = ltb-true n (2 ^ 63) fits in (true, suc n, refl, refl, omega arith)

exponent_narrow : (e : ℤ) → is_exponent e ≡ true → is_mantissa e ≡ true
exponent_narrow (pos n) h =
    let l : n ≤ 16383 = leb-true n 16383 (and_parts (int_le (negsuc 16382) (pos n)) (leb n 16383) h).1 in
    lt-ltb n (2 ^ 63) (omega arith)
exponent_narrow (negsuc n) h =
    let l : n ≤ 16382 = leb-true n 16382 (and_parts (leb n 16382) (int_le (negsuc n) (pos 16383)) h).0 in
    lt-ltb n (2 ^ 63) (omega arith)

no_fraction : (e : ℤ) → e -ℤ pos 0 ≡ e
no_fraction e = omega (arith, ints)

read_exponent : (e : ℤ) → is_exponent e ≡ true → exponent_in (Some (signed_decimal e)) 0 ≡ Some e
read_exponent e h =
    let q = sign_parts e (exponent_narrow e h) in
    let value : integer_value (signed_decimal e) ≡ Some (number q.0 q.1) = ap integer_value q.2 ∙ written_number q.0 q.1 q.4 in
    let written : written_exponent (Some (signed_decimal e)) ≡ Some e = ap written_of value ∙ ap (λ (z : ℤ). Some z) q.3 in
    let made : held is_exponent (e -ℤ pos 0) ≡ Some e = rw (no_fraction e, h) refl in
    ap (λ (o : Option ℤ). shifted o 0) written ∙ made

read_mantissa : (m : ℤ) → is_mantissa m ≡ true → mantissa_in (signed_decimal m) ≡ Some (m, 0)
read_mantissa m h =
    let q = sign_parts m h in
    let fits : is_mantissa (int_of (number q.0 q.1)) ≡ true = ap is_mantissa q.3 ∙ h in
    ap mantissa_in q.2 ∙ plain q.0 q.1 q.4 fits ∙ ap (λ (z : ℤ). Some (z, 0)) q.3

pub number_kept : (m e : ℤ) → is_mantissa m ≡ true → is_exponent e ≡ true → number_value (signed_decimal m ++ 69 ∷ signed_decimal e) ≡ Some (record { mantissa = m; exponent = e })
number_kept m e h g =
    let q = sign_parts m h in
    let none : none_passes (is_either 69 101) (signed_decimal m) ≡ true = ap (none_passes (is_either 69 101)) q.2 ∙ signed_e q.0 q.1 q.4 in
    let text : mantissa_part (signed_decimal m ++ 69 ∷ signed_decimal e) ≡ signed_decimal m = before_mark (is_either 69 101) (signed_decimal m) 69 (signed_decimal e) none refl in
    let exponent : exponent_part (signed_decimal m ++ 69 ∷ signed_decimal e) ≡ Some (signed_decimal e) = behind_mark (is_either 69 101) (signed_decimal m) 69 (signed_decimal e) none refl in
    rw (text, exponent, read_mantissa m h, read_exponent e g) refl

-- the words tell no number
inf_is_none : number_value (codes "INF") ≡ None
inf_is_none = refl

minus_inf_is_none : number_value (codes "-INF") ≡ None
minus_inf_is_none = refl

nan_is_none : number_value (codes "NaN") ≡ None
nan_is_none = refl

other_than : (text word : List ℕ) (f : Float) → number_value text ≡ Some f → number_value word ≡ None → bytes_eq text word ≡ false
other_than text word f e none =
    elim (cases_Bool (bytes_eq text word)) [
      | inr other ↦ other
      | inl same ↦ let k : number_value text ≡ number_value word = ap number_value ((bytes_eq-Decides text word).0 same) in absurd (cc)
    ]

pub number_is_float : (text : List ℕ) (f : Float) → number_value text ≡ Some f → float_value text ≡ Some f
number_is_float text f e =
    rw (other_than text (codes "INF") f e inf_is_none, other_than text (codes "-INF") f e minus_inf_is_none, other_than text (codes "NaN") f e nan_is_none) e

-- a number's parts are in their ranges
held_is : (range : ℤ → Bool) (z m : ℤ) → held range z ≡ Some m → range m ≡ true
held_is range z m e =
    elim (cases_Bool (range z)) [
      | inl yes_is ↦ let k : held range z ≡ Some z = rw yes_is refl in let same : z ≡ m = cc in subst (λ (x : ℤ). range x ≡ true) same yes_is
      | inr no_is ↦ let k : held range z ≡ None = rw no_is refl in absurd (cc)
    ]

shifted_is : (o : Option ℤ) (count : ℕ) (e : ℤ) → shifted o count ≡ Some e → is_exponent e ≡ true
shifted_is None count e h = absurd (let k : None ≡ Some e = h in cc)
shifted_is (Some w) count e h = held_is is_exponent (w -ℤ pos count) e h

some_is : {A : Type 0} {x y : A} → Some x ≡ Some y → x ≡ y
some_is e = cc

mantissa_is : (text : List ℕ) (m : ℤ × ℕ) → mantissa_in text ≡ Some m → is_mantissa m.0 ≡ true
mantissa_is text m e =
    elim (cases_Bool (is_decimal_text text && is_mantissa (mantissa_of text))) [
      | inl form ↦
          let k : mantissa_in text ≡ Some (mantissa_of text, length (fraction_digits text)) = rw form refl in
          let same : mantissa_of text ≡ m.0 = ap (λ (x : ℤ × ℕ). x.0) (some_is (sym k ∙ e)) in
          subst (λ (x : ℤ). is_mantissa x ≡ true) same (and_parts (is_decimal_text text) (is_mantissa (mantissa_of text)) form).1
      | inr form ↦ let k : mantissa_in text ≡ None = rw form refl in absurd (cc)
    ]

with_is : (m : ℤ) (o : Option ℤ) (f : Float) → with_exponent m o ≡ Some f → (m ≡ f.mantissa) × (o ≡ Some f.exponent)
with_is m None f e = absurd (let k : None ≡ Some f = e in cc)
with_is m (Some x) f e =
    let same : record { mantissa = m; exponent = x } ≡ f = some_is e in
    (ap (λ (g : Float). g.mantissa) same, ap (λ (g : Float). Some g.exponent) same)

joined_is : (o : Option (ℤ × ℕ)) (t : Option (List ℕ)) (f : Float) → ((m : ℤ × ℕ) → o ≡ Some m → is_mantissa m.0 ≡ true) → joined o t ≡ Some f → (is_mantissa f.mantissa ≡ true) × (is_exponent f.exponent ≡ true)
joined_is None t f h e = absurd (let k : None ≡ Some f = e in cc)
joined_is (Some m) t f h e =
    let w = with_is m.0 (exponent_in t m.1) f e in
    (subst (λ (x : ℤ). is_mantissa x ≡ true) w.0 (h m refl), shifted_is (written_exponent t) m.1 f.exponent w.1)

pub number_ranges : (text : List ℕ) (f : Float) → number_value text ≡ Some f → (is_mantissa f.mantissa ≡ true) × (is_exponent f.exponent ≡ true)
number_ranges text f e = joined_is (mantissa_in (mantissa_part text)) (exponent_part text) f (mantissa_is (mantissa_part text)) e

exponent_plain : (e : ℤ) → is_exponent e ≡ true → is_special e ≡ false
exponent_plain (pos n) h = refl
exponent_plain (negsuc n) h =
    let l : n ≤ 16382 = leb-true n 16382 (and_parts (leb n 16382) (int_le (negsuc n) (pos 16383)) h).0 in
    ne_eqb n 16383 (λ k. omega (arith, k))

number_again : (f : Float) → is_mantissa f.mantissa ≡ true → is_exponent f.exponent ≡ true → float_value (float_text f) ≡ Some f
number_again f m e =
    let t : float_text f ≡ signed_decimal f.mantissa ++ 69 ∷ signed_decimal f.exponent = rw (exponent_plain f.exponent e) refl in
    ap float_value t ∙ number_is_float (signed_decimal f.mantissa ++ 69 ∷ signed_decimal f.exponent) f (number_kept f.mantissa f.exponent m e)

-- of the words
word_text : (m : ℤ) → is_word m ≡ true → float_value (float_text (record { mantissa = m; exponent = no_number })) ≡ Some (record { mantissa = m; exponent = no_number })
word_text (pos zero) h = refl
word_text (pos (suc zero)) h = refl
word_text (pos (suc (suc n))) h = absurd (let l : suc (suc n) ≤ 1 = leb-true (suc (suc n)) 1 h in omega (arith, l))
word_text (negsuc zero) h = refl
word_text (negsuc (suc n)) h = absurd (let l : suc n ≡ 0 = eqb-true (suc n) 0 h in omega (arith, l))

word_again : (m e : ℤ) → is_word m ≡ true → is_special e ≡ true → float_value (float_text (record { mantissa = m; exponent = e })) ≡ Some (record { mantissa = m; exponent = e })
word_again m (pos n) w h = absurd (false≢true h)
word_again m (negsuc n) w h =
    subst (λ (k : ℕ). float_value (float_text (record { mantissa = m; exponent = negsuc k })) ≡ Some (record { mantissa = m; exponent = negsuc k })) (sym (eqb-true n 16383 h)) (word_text m w)

pub float_again : FloatIsRead
float_again f h =
    elim (cases_Bool (is_mantissa f.mantissa && is_exponent f.exponent)) [
      | inl number_form ↦ let p = and_parts (is_mantissa f.mantissa) (is_exponent f.exponent) number_form in number_again f p.0 p.1
      | inr word_form ↦ let p = and_parts (is_word f.mantissa) (is_special f.exponent) (rw word_form at h) in word_again f.mantissa f.exponent p.0 p.1
    ]

word_read : (m : ℤ) (f : Float) → is_float m no_number ≡ true → Some (record { mantissa = m; exponent = no_number }) ≡ Some f → is_float f.mantissa f.exponent ≡ true
word_read m f h e = subst (λ (g : Float). is_float g.mantissa g.exponent ≡ true) (some_is e) h

number_read : (text : List ℕ) (f : Float) → number_value text ≡ Some f → is_float f.mantissa f.exponent ≡ true
number_read text f e = let r = number_ranges text f e in rw (r.0, r.1) refl

pub float_read : FloatIsInRange
float_read text f e =
    elim (cases_Bool (bytes_eq text (codes "INF"))) [
      | inl inf ↦ word_read (pos 1) f refl (rw inf at e)
      | inr not_inf ↦ elim (cases_Bool (bytes_eq text (codes "-INF"))) [
        | inl inf ↦ word_read (negsuc 0) f refl (rw (not_inf, inf) at e)
        | inr not_minus ↦ elim (cases_Bool (bytes_eq text (codes "NaN"))) [
          | inl nan ↦ word_read (pos 0) f refl (rw (not_inf, not_minus, nan) at e)
          | inr not_nan ↦ number_read text f (rw (not_inf, not_minus, not_nan) at e)
        ]
      ]
    ]

pub float_kept : FloatIsKept
float_kept text f e = float_again f (float_read text f e)
