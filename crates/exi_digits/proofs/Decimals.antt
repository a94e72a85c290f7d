-- The digits of a number spell it.
use Rattle.std.proofs.Common.{◌≡◌, ℕ, zero, suc, ◌+◌, ◌*◌, ◌-◌, ◌/◌, ◌%◌, ◌^◌, ◌<◌, ◌≤◌, true, List, [], ◌∷◌, ◌++◌, length, get_or, replicate, refl, sym, ap, ◌∙◌, arith, inl, inr, Some, leb}
use Rattle.std.specs.Prelude.{reverse, decimal, IsAscii}
use Rattle.std.proofs.lemmas.List.{length-append, length-reverse, length-replicate, reverse-append, reverse-reverse, get_or_append_left}
use Rattle.std.proofs.lemmas.Bool.{cases_lt, le-leb, and_parts, leb-true}
use Rattle.std.proofs.lemmas.Fmt.{decimal_by_steps_wide, length-decimal-le_wide}
use Rattle.std.proofs.lemmas.Str.Ascii.{IsAscii-nil, IsAscii-cons}
use Rattle.std.proofs.Math.Nat.{pow-le-pow_right, mul-le-mul_right}
use Rattle.exi_digits.specs.Digits.{is_digit, all_digits, has_any, number_of, back_of, number_in, back_in, padded, fraction_of}
use Rattle.exi_digits.proofs.Numbers.{all_digits-append, all_digits-reverse, number_of-append, number_of-push, ten_up, kept_some}

-- these are the shortest digits of the number
pub record Spells (n : ℕ) (ds : List ℕ) : Type 0 where
  pub digits : all_digits ds ≡ true
  pub number : number_of ds ≡ n
  pub any : 0 < length ds
  -- a zero in front is the number 0
  pub front : get_or ds 0 0 ≡ 48 → n ≡ 0

pub digit_of : (d : ℕ) → d < 10 → is_digit (48 + d) ≡ true
digit_of d lt = rw (le-leb 48 (48 + d) (omega arith), le-leb (48 + d) 57 (omega arith)) refl

one_digit : (n : ℕ) → n < 10 → Spells n ((48 + n) ∷ [])
one_digit n lt = record {
  digits = (rw (digit_of n lt) refl);
  number = omega arith;
  any = omega arith;
  front = (λ e. omega (arith, e));
}

more_digits : (n : ℕ) (ds : List ℕ) → 10 ≤ n → Spells (n / 10) ds → Spells n (ds ++ ((48 + n % 10) ∷ []))
more_digits n ds le s =
    let any : 0 < length ds = s.any in
    let d : n % 10 < 10 = omega arith in
    let value : number_of ds ≡ n / 10 = s.number in
    record {
      digits = rw (all_digits-append ds ((48 + n % 10) ∷ []), s.digits, digit_of (n % 10) d) refl;
      number = (number_of-push ds (48 + n % 10) ∙ omega arith);
      any = omega (arith, length-append ds ((48 + n % 10) ∷ []));
      front = (λ e.
          let z : n / 10 ≡ 0 = s.front (sym (get_or_append_left ds ((48 + n % 10) ∷ []) 0 0 any) ∙ e) in
          omega arith);
    }

pub decimal_spells : (n : ℕ) → n < 2 ^ 128 → Spells n (decimal n)
decimal_spells n lt = decimal_by_steps_wide Spells one_digit more_digits n (omega arith)

pub number_of-decimal : (n : ℕ) → n < 2 ^ 128 → number_of (decimal n) ≡ n
number_of-decimal n lt = (decimal_spells n lt).number

pub all_digits-decimal : (n : ℕ) → n < 2 ^ 128 → all_digits (decimal n) ≡ true
all_digits-decimal n lt = (decimal_spells n lt).digits

pub decimal_any : (n : ℕ) → n < 2 ^ 128 → 0 < length (decimal n)
decimal_any n lt = (decimal_spells n lt).any

pub has_any_of : (ds : List ℕ) → 0 < length ds → has_any ds ≡ true
has_any_of [] lt = absurd (omega arith)
has_any_of (c ∷ cs) lt = refl

pub has_any-decimal : (n : ℕ) → n < 2 ^ 128 → has_any (decimal n) ≡ true
has_any-decimal n lt = has_any_of (decimal n) (decimal_any n lt)

-- what is written is read
pub number_in-decimal : (n : ℕ) → n < 2 ^ 128 → number_in (decimal n) ≡ Some n
number_in-decimal n lt = rw (has_any-decimal n lt, all_digits-decimal n lt, number_of-decimal n lt) (kept_some n lt)

pub all_digits-fraction_of : (n : ℕ) → n < 2 ^ 128 → all_digits (fraction_of n) ≡ true
all_digits-fraction_of n lt = all_digits-reverse (decimal n) ∙ all_digits-decimal n lt

pub back_of-fraction_of : (n : ℕ) → n < 2 ^ 128 → back_of (fraction_of n) ≡ n
back_of-fraction_of n lt = ap number_of (reverse-reverse (decimal n)) ∙ number_of-decimal n lt

pub back_in-fraction_of : (n : ℕ) → n < 2 ^ 128 → back_in (fraction_of n) ≡ Some n
back_in-fraction_of n lt = rw (all_digits-fraction_of n lt, back_of-fraction_of n lt) (kept_some n lt)

pub fraction_any : (n : ℕ) → n < 2 ^ 128 → 0 < length (fraction_of n)
fraction_any n lt = omega (arith, length-reverse (decimal n), decimal_any n lt)

-- ---- with zeros in front
pub all_digits-zeros : (k : ℕ) (ds : List ℕ) → all_digits (replicate k 48 ++ ds) ≡ all_digits ds
all_digits-zeros zero ds = refl
all_digits-zeros (suc k) ds = all_digits-zeros k ds

pub number_of-zeros : (k : ℕ) (ds : List ℕ) → number_of (replicate k 48 ++ ds) ≡ number_of ds
number_of-zeros zero ds = refl
number_of-zeros (suc k) ds = omega (arith, number_of-zeros k ds)

-- zeros at the end of a fraction tell nothing
zeros_reversed : (k : ℕ) → number_of (reverse (replicate k 48)) ≡ 0
zeros_reversed zero = refl
zeros_reversed (suc k) =
    let e : reverse (48 ∷ replicate k 48) ≡ reverse (replicate k 48) ++ 48 ∷ [] = reverse-append (48 ∷ []) (replicate k 48) in
    let z : number_of (reverse (replicate k 48)) ≡ 0 = zeros_reversed k in
    ap number_of e ∙ number_of-push (reverse (replicate k 48)) 48 ∙ (rw z refl)

pub back_of-zeros : (ds : List ℕ) (k : ℕ) → back_of (ds ++ replicate k 48) ≡ back_of ds
back_of-zeros ds k =
    ap number_of (reverse-append ds (replicate k 48)) ∙ number_of-append (reverse (replicate k 48)) (reverse ds) ∙ (rw (zeros_reversed k) (omega arith))

pub all_digits-padded : (w n : ℕ) → n < 2 ^ 128 → all_digits (padded w n) ≡ true
all_digits-padded w n lt = all_digits-zeros (w - length (decimal n)) (decimal n) ∙ all_digits-decimal n lt

pub number_of-padded : (w n : ℕ) → n < 2 ^ 128 → number_of (padded w n) ≡ n
number_of-padded w n lt = number_of-zeros (w - length (decimal n)) (decimal n) ∙ number_of-decimal n lt

pub padded_any : (w n : ℕ) → n < 2 ^ 128 → 0 < length (padded w n)
padded_any w n lt = omega (arith, length-append (replicate (w - length (decimal n)) 48) (decimal n), decimal_any n lt)

pub number_in-padded : (w n : ℕ) → n < 2 ^ 128 → number_in (padded w n) ≡ Some n
number_in-padded w n lt = rw (has_any_of (padded w n) (padded_any w n lt), all_digits-padded w n lt, number_of-padded w n lt) (kept_some n lt)

-- ---- how many digits there are
-- a number of so many digits is below that power of 10
pub number_of_below : (ds : List ℕ) → all_digits ds ≡ true → number_of ds < 10 ^ length ds
number_of_below [] all = omega arith
number_of_below (c ∷ cs) all =
    let p = and_parts (is_digit c) (all_digits cs) all in
    let q = and_parts (leb 48 c) (leb c 57) p.0 in
    let high : c ≤ 57 = leb-true c 57 q.1 in
    let rest : number_of cs < 10 ^ length cs = number_of_below cs p.1 in
    let top : (c - 48) * 10 ^ length cs ≤ 9 * 10 ^ length cs = mul-le-mul_right (10 ^ length cs) (omega arith) in
    rw (ten_up (length cs)) (omega arith)

pub power_up : (i j : ℕ) → i ≤ j → 10 ^ i ≤ 10 ^ j
power_up i j le = pow-le-pow_right {n = 10} (omega arith) le

-- a number from a power of 10 on has more digits
pub decimal_long : (w n : ℕ) → n < 2 ^ 128 → 10 ^ w ≤ n → w < length (decimal n)
decimal_long w n lt le =
    elim (cases_lt w (length (decimal n))) [
      | inl more ↦ more
      | inr few ↦
          let below : number_of (decimal n) < 10 ^ length (decimal n) = number_of_below (decimal n) (all_digits-decimal n lt) in
          let up = power_up (length (decimal n)) w few in
          absurd (omega (arith, number_of-decimal n lt))
    ]

pub decimal_short : (w n : ℕ) → 0 < w → n < 2 ^ 128 → n < 10 ^ w → length (decimal n) ≤ w
decimal_short w n pos lt below = length-decimal-le_wide w n pos below (omega arith)

pub length-padded : (w n : ℕ) → 0 < w → n < 2 ^ 128 → n < 10 ^ w → length (padded w n) ≡ w
length-padded w n pos lt below =
    omega (arith, length-append (replicate (w - length (decimal n)) 48) (decimal n), length-replicate {A = ℕ} (w - length (decimal n)) 48, decimal_short w n pos lt below)

-- a number of more digits has no zeros in front
pub padded_long : (w n : ℕ) → n < 2 ^ 128 → 10 ^ w ≤ n → padded w n ≡ decimal n
padded_long w n lt le =
    let more = decimal_long w n lt le in
    let e : w - length (decimal n) ≡ 0 = omega arith in
    rw e refl

pub first_digit : (n : ℕ) → 0 < n → n < 2 ^ 128 → get_or (decimal n) 0 0 ≡ 48 → ⊥
first_digit n pos lt e = let z = (decimal_spells n lt).front e in omega arith

-- ---- digits are ASCII
pub is_ascii_digit : (c : ℕ) → is_digit c ≡ true → c < 128
is_ascii_digit c e =
    let q = and_parts (leb 48 c) (leb c 57) e in
    let high : c ≤ 57 = leb-true c 57 q.1 in
    omega arith

pub digits_ascii : (ds : List ℕ) → all_digits ds ≡ true → IsAscii ds
digits_ascii [] all = IsAscii-nil
digits_ascii (c ∷ cs) all =
    let p = and_parts (is_digit c) (all_digits cs) all in
    IsAscii-cons c cs (is_ascii_digit c p.0) (digits_ascii cs p.1)
