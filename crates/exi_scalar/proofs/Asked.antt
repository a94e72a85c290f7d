-- What the writers ask of a value is that its datatype has it.
use Rattle.std.proofs.Common.{◌≡◌, ◌↔◌, ℕ, zero, suc, ◌^◌, ◌-◌, ◌<◌, ◌≤◌, ◌&&◌, ◌||◌, Bool, true, false, cond, leb, ltb, eqb, List, refl, sym, ap, ◌∙◌, subst, arith, inl, inr, ℤ, pos, negsuc}
use Rattle.std.specs.Prelude.{not, int_le, ◌==◌}
use Rattle.std.proofs.lemmas.Bool.{and_parts, cases_Bool, cases_eq, eq-eqb, eqb-true, false≢true, le-leb, leb-true, lt-ltb, ltb-true, ne_eqb}
use Rattle.exi_names.specs.Datatypes as kind
use Rattle.exi_names.specs.Forms.{HasNoMinusZero, IsOf, is_exponent, is_float, is_integer, is_mantissa, is_special, is_word}
use Rattle.exi_names.specs.Seen.{Value, text, boolean, integer, decimal, float, moment, binary, items, name}
use Rattle.exi_names.specs.Wholes.{Number}
use Rattle.exi_scalar.specs.Asked.{BinaryIsAsked, BooleanIsAsked, DecimalIsAsked, FloatIsAsked, IntegerIsAsked}
use Rattle.exi_scalar.specs.Scalars.{float_of, int_of, is_least, is_one, one_if, parts_of, parts_of_int}

pub boolean_asked : BooleanIsAsked
boolean_asked pattern (boolean truth digit) = (λ h. h, λ h. h)
boolean_asked pattern v = (λ h. absurd h, λ h. absurd h)

-- ---- integers
in_bounds : (minus : Bool) (n : ℕ) → (n ≡ 0 → minus ≡ false) → cond minus (leb n (2 ^ 127)) (ltb n (2 ^ 127)) ≡ true → n - one_if minus < 2 ^ 127
in_bounds true n plain h = let l : n ≤ 2 ^ 127 = leb-true n (2 ^ 127) h in omega arith
in_bounds false n plain h = let l : n < 2 ^ 127 = ltb-true n (2 ^ 127) h in omega arith

bounds_told : (minus : Bool) (n : ℕ) → n - one_if minus < 2 ^ 127 → cond minus (leb n (2 ^ 127)) (ltb n (2 ^ 127)) ≡ true
bounds_told true n h = le-leb n (2 ^ 127) (omega arith)
bounds_told false n h = lt-ltb n (2 ^ 127) (omega arith)

pub integer_asked : IntegerIsAsked
integer_asked n = (λ h. (h.0, in_bounds n.minus n.size h.0 h.1), λ h. (h.0, bounds_told n.minus n.size h.1))

pub decimal_asked : DecimalIsAsked
decimal_asked minus whole back = (λ h. (tt, h.0, h.1), λ h. (h.1, h.2))

-- ---- floats
mantissa_parts : (m : ℤ) → is_mantissa m ≡ true → (parts_of_int m).1 < 2 ^ 63
mantissa_parts (pos n) h = ltb-true n (2 ^ 63) h
mantissa_parts (negsuc n) h = ltb-true n (2 ^ 63) h

parts_mantissa : (m : ℤ) → (parts_of_int m).1 < 2 ^ 63 → is_mantissa m ≡ true
parts_mantissa (pos n) h = lt-ltb n (2 ^ 63) h
parts_mantissa (negsuc n) h = lt-ltb n (2 ^ 63) h

same_int : (z : ℤ) → int_of (parts_of_int z) ≡ z
same_int (pos n) = refl
same_int (negsuc n) = refl

-- of a number
number_exponent : (e : ℤ) → is_exponent e ≡ true → ((parts_of_int e).1 < 2 ^ 14) × (is_least (parts_of_int e) ≡ false)
number_exponent (pos n) h = let l : n ≤ 16383 = leb-true n 16383 (and_parts (int_le (negsuc 16382) (pos n)) (leb n 16383) h).1 in (omega arith, refl)
number_exponent (negsuc n) h =
    let l : n ≤ 16382 = leb-true n 16382 (and_parts (leb n 16382) (int_le (negsuc n) (pos 16383)) h).0 in
    (omega arith, ne_eqb n 16383 (λ k. omega (arith, k)))

number_is : (m e : ℤ) → is_least (parts_of_int e) ≡ false → float_of (parts_of_int m) (parts_of_int e) ≡ float m e
number_is m e least = rw (least, same_int m, same_int e) refl

-- of what is no number
word_mantissa : (m : ℤ) → is_word m ≡ true → ((parts_of_int m).1 < 2 ^ 63) × (float_of (parts_of_int m) (true, 16383) ≡ float m (negsuc 16383))
word_mantissa (pos zero) h = (omega arith, refl)
word_mantissa (pos (suc zero)) h = (omega arith, refl)
word_mantissa (pos (suc (suc n))) h = absurd (let l : suc (suc n) ≤ 1 = leb-true (suc (suc n)) 1 h in omega (arith, l))
word_mantissa (negsuc zero) h = (omega arith, refl)
word_mantissa (negsuc (suc n)) h = absurd (let l : suc n ≡ 0 = eqb-true (suc n) 0 h in omega (arith, l))

abbrev IsAsked : ℤ → ℤ → Type 0
IsAsked m e = ((parts_of_int m).1 < 2 ^ 63) × ((parts_of_int e).1 < 2 ^ 14) × (float_of (parts_of_int m) (parts_of_int e) ≡ float m e)

word_asked : (m e : ℤ) → is_word m ≡ true → is_special e ≡ true → IsAsked m e
word_asked m (pos n) w h = absurd (false≢true h)
word_asked m (negsuc n) w h =
    let p = word_mantissa m w in
    let low : 16383 < 2 ^ 14 = omega arith in
    subst (λ (k : ℕ). IsAsked m (negsuc k)) (sym (eqb-true n 16383 h)) (p.0, low, p.1)

asked : (m e : ℤ) → is_float m e ≡ true → IsAsked m e
asked m e h = elim (cases_Bool (is_mantissa m && is_exponent e)) [
  | inl number ↦
      let p = and_parts (is_mantissa m) (is_exponent e) number in
      let x = number_exponent e p.1 in
      (mantissa_parts m p.0, x.0, number_is m e x.1)
  | inr word ↦ let p = and_parts (is_word m) (is_special e) (rw word at h) in word_asked m e p.0 p.1
]

-- back
abbrev mantissa_of : Value → ℤ
mantissa_of (float m e) = m
mantissa_of v = pos 0

word_back : (m : ℤ) → float_of (parts_of_int m) (true, 16383) ≡ float m (negsuc 16383) → is_word m ≡ true
word_back (pos zero) h = refl
word_back (pos (suc zero)) h = refl
word_back (pos (suc (suc n))) h =
    let none : is_one (false, suc (suc n)) ≡ false = ne_eqb (suc (suc n)) 1 (λ k. omega (arith, k)) in
    let e : pos 0 ≡ pos (suc (suc n)) = ap mantissa_of (rw none at h) in absurd (cc e)
word_back (negsuc zero) h = refl
word_back (negsuc (suc n)) h =
    let none : is_one (true, suc n) ≡ false = ne_eqb (suc n) 0 (λ k. omega (arith, k)) in
    let e : pos 0 ≡ negsuc (suc n) = ap mantissa_of (rw none at h) in absurd (cc e)

or_word : (a b c : Bool) → b ≡ true → c ≡ true → (a || (b && c)) ≡ true
or_word true b c h k = refl
or_word false b c h k = rw (h, k) refl

exponent_back : (m e : ℤ) → is_mantissa m ≡ true → (parts_of_int e).1 < 2 ^ 14 → float_of (parts_of_int m) (parts_of_int e) ≡ float m e → is_float m e ≡ true
exponent_back m (pos n) mantissa low h =
    let most : leb n 16383 ≡ true = le-leb n 16383 (omega arith) in
    rw (mantissa, most) refl
exponent_back m (negsuc n) mantissa low h = elim (cases_eq n 16383) [
  | inl least ↦
      let w : is_word m ≡ true = word_back m (subst (λ (k : ℕ). float_of (parts_of_int m) (true, k) ≡ float m (negsuc k)) least h) in
      let s : eqb n 16383 ≡ true = eq-eqb n 16383 least in
      or_word (is_mantissa m && is_exponent (negsuc n)) (is_word m) (is_special (negsuc n)) w s
  | inr other ↦
      let most : leb n 16382 ≡ true = le-leb n 16382 (omega (arith, other)) in
      rw (mantissa, most) refl
]

pub float_asked : FloatIsAsked
float_asked m e = (λ h. let a = asked m e h in (a.0, (a.1, a.2)), λ h. exponent_back m e (parts_mantissa m h.0) h.1.0 h.1.1)

pub binary_asked : BinaryIsAsked
binary_asked hex spelled octets = (λ h. (h.0, h.1), λ h. (h.0, h.1))
