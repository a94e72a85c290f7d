-- What the numbers of the parts tell of a text.
use Rattle.std.proofs.Common.{◌≡◌, ◌⊎◌, ℕ, zero, suc, ◌+◌, ◌*◌, ◌^◌, ◌<◌, ◌≤◌, Bool, true, false, List, [], ◌∷◌, ◌++◌, length, refl, sym, ap, ◌∙◌, subst, arith, inl, inr, Option, Some, None, ℤ, pos, negsuc}
use Rattle.std.specs.Prelude.{neg_ℤ, if◌then◌else◌, ◌==◌, not, ◌-ℤ◌}
use Rattle.std.proofs.lemmas.Bool.{cases_Bool, lt-ltb, le-ltb, ne_eqb}
use Rattle.std.proofs.Math.Nat.{mul-le-mul_right, mul_comm}
use Rattle.exi_digits.specs.Digits.{all_digits, has_any, number_of, back_of, kept, number_behind, back_in}
use Rattle.exi_digits.proofs.Numbers.{behind_no_digits, kept_is, kept_not, number_of-append, ten_pos}
use Rattle.exi_names.specs.Wholes.{Number, number}
use Rattle.exi_names.specs.Forms.{int_of, is_exponent, is_mantissa, is_special, is_wide}
use Rattle.exi_numerals.specs.Integers.{has_minus, in_range, integer_in, integer_value}
use Rattle.exi_numerals.specs.Decimals.{decimal_of, decimal_value, fraction_digits, is_decimal_text, is_narrow, whole_digits}
use Rattle.exi_numerals.specs.Floats.{exponent_in, held, mantissa_in, mantissa_of, shifted, written_of}

with_digits : (b : ℕ) (t : List ℕ) → all_digits t ≡ true → number_behind b t ≡ kept (b * 10 ^ length t + number_of t)
with_digits b t all = rw all refl

pub behind_is : (b n : ℕ) (t : List ℕ) → number_behind b t ≡ Some n → (all_digits t ≡ true) × (b * 10 ^ length t + number_of t ≡ n) × (n < 2 ^ 128)
behind_is b n t e =
    elim (cases_Bool (all_digits t)) [
      | inl all ↦
          let k = kept_is (b * 10 ^ length t + number_of t) n (sym (with_digits b t all) ∙ e) in
          let low : b * 10 ^ length t + number_of t < 2 ^ 128 = k.1 in
          let same : b * 10 ^ length t + number_of t ≡ n = k.0 in
          (all, same, omega arith)
      | inr some ↦ let k = behind_no_digits b t some in absurd (cc)
    ]

pub behind_fails : (b : ℕ) (t : List ℕ) → number_behind b t ≡ None → (all_digits t ≡ false) ⊎ (2 ^ 128 ≤ b * 10 ^ length t + number_of t)
behind_fails b t e =
    elim (cases_Bool (all_digits t)) [
      | inl all ↦ inr (kept_not (b * 10 ^ length t + number_of t) (sym (with_digits b t all) ∙ e))
      | inr some ↦ inl some
    ]

back_digits : (t : List ℕ) → all_digits t ≡ true → back_in t ≡ kept (back_of t)
back_digits t all = rw all refl

no_back : (t : List ℕ) → all_digits t ≡ false → back_in t ≡ None
no_back t some = rw some refl

pub back_is : (n : ℕ) (t : List ℕ) → back_in t ≡ Some n → (all_digits t ≡ true) × (back_of t ≡ n) × (n < 2 ^ 128)
back_is n t e =
    elim (cases_Bool (all_digits t)) [
      | inl all ↦
          let k = kept_is (back_of t) n (sym (back_digits t all) ∙ e) in
          let low : back_of t < 2 ^ 128 = k.1 in
          let same : back_of t ≡ n = k.0 in
          (all, same, omega arith)
      | inr some ↦ let k = no_back t some in absurd (cc)
    ]

-- ---- decimals
decimal_made : (text : List ℕ) → is_decimal_text text ≡ true → is_narrow (decimal_of text) ≡ true → decimal_value text ≡ Some (decimal_of text)
decimal_made text form narrow = rw (form, narrow) refl

pub is_form : (text : List ℕ) → all_digits (whole_digits text) ≡ true → all_digits (fraction_digits text) ≡ true → has_any (whole_digits text ++ fraction_digits text) ≡ true → is_decimal_text text ≡ true
is_form text whole fraction any = rw (whole, fraction, any) refl

pub decimal_some : (text : List ℕ) (w b : ℕ) → has_any (whole_digits text ++ fraction_digits text) ≡ true → number_behind 0 (whole_digits text) ≡ Some w → back_in (fraction_digits text) ≡ Some b → decimal_value text ≡ Some (record { minus = has_minus text; whole = w; back = b })
decimal_some text w b any whole back =
    let p = behind_is 0 w (whole_digits text) whole in
    let q = back_is b (fraction_digits text) back in
    let is_whole : number_of (whole_digits text) ≡ w = omega (arith, p.1) in
    let is_back : back_of (fraction_digits text) ≡ b = q.1 in
    let narrow : is_narrow (decimal_of text) ≡ true = rw (is_whole, is_back, lt-ltb w (2 ^ 128) p.2, lt-ltb b (2 ^ 128) q.2) refl in
    decimal_made text (is_form text p.0 q.0 any) narrow ∙ (rw (is_whole, is_back) refl)

-- ---- numbers with their sign
pub int_of-number : (minus : Bool) (n : ℕ) → int_of (number minus n) ≡ (if minus then neg_ℤ (pos n) else pos n)
int_of-number true zero = refl
int_of-number false zero = refl
int_of-number true (suc n) = refl
int_of-number false (suc n) = refl

-- too far from zero for 64 bits
pub is_far : (minus : Bool) (n : ℕ) → 2 ^ 128 ≤ n → is_mantissa (int_of (number minus n)) ≡ false
is_far minus zero far = absurd (omega (arith, far))
is_far true (suc n) far = le-ltb n (2 ^ 63) (omega (arith, far))
is_far false (suc n) far = le-ltb (suc n) (2 ^ 63) (omega (arith, far))

-- ---- mantissas
no_form : (text : List ℕ) → is_decimal_text text ≡ false → mantissa_in text ≡ None
no_form text form = rw form refl

no_whole : (text : List ℕ) → all_digits (whole_digits text) ≡ false → mantissa_in text ≡ None
no_whole text some = rw some refl

no_fraction : (text : List ℕ) → all_digits (whole_digits text) ≡ true → all_digits (fraction_digits text) ≡ false → mantissa_in text ≡ None
no_fraction text whole some = rw (whole, some) refl

pub no_mantissa : (text : List ℕ) → is_mantissa (mantissa_of text) ≡ false → mantissa_in text ≡ None
no_mantissa text no_is =
    elim (cases_Bool (is_decimal_text text)) [
      | inl form ↦ rw (form, no_is) refl
      | inr form ↦ no_form text form
    ]

digits_of : (text : List ℕ) → number_of (whole_digits text ++ fraction_digits text) ≡ number_of (whole_digits text) * 10 ^ length (fraction_digits text) + number_of (fraction_digits text)
digits_of text = number_of-append (whole_digits text) (fraction_digits text)

too_far : (text : List ℕ) → 2 ^ 128 ≤ number_of (whole_digits text ++ fraction_digits text) → mantissa_in text ≡ None
too_far text far = no_mantissa text (is_far (has_minus text) (number_of (whole_digits text ++ fraction_digits text)) far)

grows : (n p m : ℕ) → 1 ≤ p → n ≤ n * p + m
grows n p m pos_is = let h : 1 * n ≤ p * n = mul-le-mul_right n pos_is in omega (arith, mul_comm n p)

pub whole_fails : (text : List ℕ) → number_behind 0 (whole_digits text) ≡ None → mantissa_in text ≡ None
whole_fails text e =
    elim (behind_fails 0 (whole_digits text) e) [
      | inl some ↦ no_whole text some
      | inr far ↦
          let more = grows (number_of (whole_digits text)) (10 ^ length (fraction_digits text)) (number_of (fraction_digits text)) (ten_pos (length (fraction_digits text))) in
          too_far text (omega (arith, digits_of text))
    ]

pub fraction_fails : (text : List ℕ) (w : ℕ) → number_behind 0 (whole_digits text) ≡ Some w → number_behind w (fraction_digits text) ≡ None → mantissa_in text ≡ None
fraction_fails text w whole e =
    let p = behind_is 0 w (whole_digits text) whole in
    let is_whole : number_of (whole_digits text) ≡ w = omega (arith, p.1) in
    elim (behind_fails w (fraction_digits text) e) [
      | inl some ↦ no_fraction text p.0 some
      | inr far ↦ too_far text (subst (λ (x : ℕ). 2 ^ 128 ≤ x) (sym (digits_of text ∙ ap (λ (x : ℕ). x * 10 ^ length (fraction_digits text) + number_of (fraction_digits text)) is_whole)) far)
    ]

pub whole_number : (text : List ℕ) (w n : ℕ) → number_behind 0 (whole_digits text) ≡ Some w → number_behind w (fraction_digits text) ≡ Some n → number_of (whole_digits text ++ fraction_digits text) ≡ n
whole_number text w n whole fraction =
    let p = behind_is 0 w (whole_digits text) whole in
    let is_whole : number_of (whole_digits text) ≡ w = omega (arith, p.1) in
    digits_of text ∙ ap (λ (x : ℕ). x * 10 ^ length (fraction_digits text) + number_of (fraction_digits text)) is_whole ∙ (behind_is w n (fraction_digits text) fraction).1

held_is : (range : ℤ → Bool) (z m : ℤ) → held range z ≡ Some m → (range z ≡ true) × (z ≡ m)
held_is range z m e =
    elim (cases_Bool (range z)) [
      | inl yes_is ↦ let k : held range z ≡ Some z = rw yes_is refl in (yes_is, cc)
      | inr no_is ↦ let k : held range z ≡ None = rw no_is refl in absurd (cc)
    ]

held_not : (range : ℤ → Bool) (z : ℤ) → held range z ≡ None → range z ≡ false
held_not range z e =
    elim (cases_Bool (range z)) [
      | inl yes_is ↦ let k : held range z ≡ Some z = rw yes_is refl in absurd (cc)
      | inr no_is ↦ no_is
    ]

pub sign_fails : (text : List ℕ) (w n : ℕ) → number_behind 0 (whole_digits text) ≡ Some w → number_behind w (fraction_digits text) ≡ Some n → held is_mantissa (int_of (number (has_minus text) n)) ≡ None → mantissa_in text ≡ None
sign_fails text w n whole fraction e =
    no_mantissa text (ap (λ (x : ℕ). is_mantissa (int_of (number (has_minus text) x))) (whole_number text w n whole fraction) ∙ held_not is_mantissa (int_of (number (has_minus text) n)) e)

mantissa_made : (text : List ℕ) → is_decimal_text text ≡ true → is_mantissa (mantissa_of text) ≡ true → mantissa_in text ≡ Some (mantissa_of text, length (fraction_digits text))
mantissa_made text form fits = rw (form, fits) refl

pub mantissa_some : (text : List ℕ) (w n : ℕ) (m : ℤ) → has_any (whole_digits text ++ fraction_digits text) ≡ true → number_behind 0 (whole_digits text) ≡ Some w → number_behind w (fraction_digits text) ≡ Some n → held is_mantissa (int_of (number (has_minus text) n)) ≡ Some m → mantissa_in text ≡ Some (m, length (fraction_digits text))
mantissa_some text w n m any whole fraction e =
    let h = held_is is_mantissa (int_of (number (has_minus text) n)) m e in
    let same : mantissa_of text ≡ int_of (number (has_minus text) n) = ap (λ (x : ℕ). int_of (number (has_minus text) x)) (whole_number text w n whole fraction) in
    let form = is_form text (behind_is 0 w (whole_digits text) whole).0 (behind_is w n (fraction_digits text) fraction).0 any in
    mantissa_made text form (ap is_mantissa same ∙ h.0) ∙ ap (λ (x : ℤ). Some (x, length (fraction_digits text))) (same ∙ h.1)

-- ---- ranges
pub in_range_is : (range : Number → Bool) (o : Option Number) (n : Number) → in_range range o ≡ Some n → (o ≡ Some n) × (range n ≡ true)
in_range_is range None n e = absurd (let k : None ≡ Some n = e in cc)
in_range_is range (Some m) n e =
    elim (cases_Bool (range m)) [
      | inl yes_is ↦ let k : in_range range (Some m) ≡ Some m = rw yes_is refl in let same : m ≡ n = cc in (ap (λ (x : Number). Some x) same, subst (λ (x : Number). range x ≡ true) same yes_is)
      | inr no_is ↦ let k : in_range range (Some m) ≡ None = rw no_is refl in absurd (cc)
    ]

pub in_range_some : (range : Number → Bool) (n : Number) → range n ≡ true → in_range range (Some n) ≡ Some n
in_range_some range n yes_is = rw yes_is refl

-- ---- for the answers
pub any_front : (a b : List ℕ) (r : Bool) → r ≡ (length a == 0) → r ≡ false → not r ≡ has_any (a ++ b)
any_front [] b r e f = absurd (let t : r ≡ true = e in cc)
any_front (c ∷ a) b r e f = rw f refl

pub not_special : (e : ℤ) → (e ≡ negsuc 16383 → ⊥) → is_special e ≡ false
not_special (pos n) other = refl
not_special (negsuc n) other = ne_eqb n 16383 (λ h. other (ap (λ (k : ℕ). negsuc k) h))

pub written_is : (t : List ℕ) (n : Number) (count : ℕ) → integer_in is_wide t ≡ Some n → exponent_in (Some t) count ≡ held is_exponent (int_of n -ℤ pos count)
written_is t n count e =
    let k = (in_range_is is_wide (integer_value t) n e).0 in
    ap (λ (o : Option Number). shifted (written_of o) count) k
