-- Numbers compared by their digits.
use Rattle.std.proofs.Common.{◌≡◌, ℕ, zero, suc, ◌+◌, ◌-◌, ◌*◌, ◌^◌, ◌<◌, ◌≤◌, Bool, true, false, ◌&&◌, List, [], ◌∷◌, length, eqb, leb, ltb, inl, inr, refl, sym, ap, ◌∙◌, arith}
use Rattle.std.specs.declared.cmp.Ordering.{Ordering}
use Rattle.std.specs.Ordering.{MatchOrdering, is_le, nat_cmp, ordering_then}
use Rattle.std.specs.Cmp.Lexicographic.{slice_cmp}
use Rattle.std.proofs.Math.Nat.{mul-le-mul_right, suc-mul}
use Rattle.std.proofs.lemmas.Bool.{and_parts, cases_lt, eqb-false, leb-true, le-leb, le-ltb, lt-leb, lt-ltb, ne_eqb}
use Rattle.std.proofs.lemmas.Cmp.{ranked}
use Rattle.std.specs.declared.cmp.Ordering.TheVariants.{Less, Equal, Greater}
use Rattle.exi_digits.specs.Digits.{all_digits, is_digit, number_of}
use Rattle.exi_digits.proofs.Decimals.{number_of-zeros, number_of_below, power_up}
use Rattle.exi_digits.proofs.Numbers.{ten_pos}
use Rattle.exi_pattern.specs.Quantities.{begins_zero}

pub zero_front : (cs : List ℕ) → number_of (48 ∷ cs) ≡ number_of cs
zero_front cs = number_of-zeros 1 cs

pub digits_behind : (c : ℕ) (cs : List ℕ) → all_digits (c ∷ cs) ≡ true → all_digits cs ≡ true
digits_behind c cs h = (and_parts (is_digit c) (all_digits cs) h).1

digit_from : (c : ℕ) → is_digit c ≡ true → 48 ≤ c
digit_from c h = leb-true 48 c (and_parts (leb 48 c) (leb c 57) h).0

-- without a zero in front there is one of so many tens at least
large : (c : ℕ) (cs : List ℕ) → all_digits (c ∷ cs) ≡ true → begins_zero (c ∷ cs) ≡ false → 10 ^ length cs ≤ number_of (c ∷ cs)
large c cs all front =
    let low = digit_from c (and_parts (is_digit c) (all_digits cs) all).0 in
    let other = eqb-false c 48 front in
    let some_more : 1 ≤ c - 48 = omega (arith, low, other) in
    let times : 1 * 10 ^ length cs ≤ (c - 48) * 10 ^ length cs = mul-le-mul_right (10 ^ length cs) some_more in
    omega arith

pub zero_only : (cs : List ℕ) → all_digits cs ≡ true → begins_zero cs ≡ false → eqb (length cs) 0 ≡ eqb (number_of cs) 0
zero_only [] all front = refl
zero_only (c ∷ cs) all front =
    let l = large c cs all front in
    let t = ten_pos (length cs) in
    ne_eqb (suc (length cs)) 0 (λ e. omega arith) ∙ sym (ne_eqb (number_of (c ∷ cs)) 0 (λ e. omega arith))

-- more digits are a larger number
pub longer : (a b : List ℕ) → all_digits a ≡ true → all_digits b ≡ true → begins_zero b ≡ false → length a < length b → number_of a < number_of b
longer a [] da db front less = absurd (omega arith)
longer a (y ∷ ys) da db front less =
    let below = number_of_below a da in
    let up = power_up (length a) (length ys) (omega arith) in
    let l = large y ys db front in
    omega arith

abbrev Tells : Ordering → ℕ → ℕ → Type 0
Tells r m n = MatchOrdering r (m < n) (m ≡ n) (n < m)

lower : (x y p n m : ℕ) → x < y → n < p → x * p + n < y * p + m
lower x y p n m less below =
    let up : suc x * p ≤ y * p = mul-le-mul_right p (omega arith) in
    let e : suc x * p ≡ x * p + p = suc-mul x p in
    omega arith

same_front : (x y p n m : ℕ) (s : Ordering) → x ≡ y → Tells s n m → Tells s (x * p + n) (y * p + m)
same_front x y p n m Less e h = let q : x * p ≡ y * p = ap (λ k. k * p) e in omega (arith, h)
same_front x y p n m Equal e h = let q : x * p ≡ y * p = ap (λ k. k * p) e in omega (arith, h)
same_front x y p n m Greater e h = let q : x * p ≡ y * p = ap (λ k. k * p) e in omega (arith, h)

front_tells : (x y p n m : ℕ) (r s : Ordering) → 48 ≤ x → 48 ≤ y → n < p → m < p → MatchOrdering r (x < y) (x ≡ y) (y < x) → Tells s n m → Tells (ordering_then r s) ((x - 48) * p + n) ((y - 48) * p + m)
front_tells x y p n m Less s dx dy bn bm h k = lower (x - 48) (y - 48) p n m (omega (arith, h)) bn
front_tells x y p n m Equal s dx dy bn bm h k = same_front (x - 48) (y - 48) p n m s (ap (λ (i : ℕ). i - 48) h) k
front_tells x y p n m Greater s dx dy bn bm h k = lower (y - 48) (x - 48) p m n (omega (arith, h)) bm

tells : (a b : List ℕ) → length a ≡ length b → all_digits a ≡ true → all_digits b ≡ true → Tells (slice_cmp nat_cmp a b) (number_of a) (number_of b)
tells [] [] same da db = refl
tells [] (y ∷ ys) same da db = absurd (omega arith)
tells (x ∷ xs) [] same da db = absurd (omega arith)
tells (x ∷ xs) (y ∷ ys) same da db =
    let p = and_parts (is_digit x) (all_digits xs) da in
    let q = and_parts (is_digit y) (all_digits ys) db in
    let long : length xs ≡ length ys = omega arith in
    let bx : number_of xs < 10 ^ length ys = rw (sym long) (number_of_below xs p.1) in
    let t = front_tells x y (10 ^ length ys) (number_of xs) (number_of ys) (nat_cmp x y) (slice_cmp nat_cmp xs ys) (digit_from x p.0) (digit_from y q.0) bx (number_of_below ys q.1) (ranked x y (nat_cmp x y) refl) (tells xs ys long p.1 q.1) in
    rw long t

is_told : (r : Ordering) (m n : ℕ) → Tells r m n → is_le r ≡ leb m n
is_told Less m n h = sym (le-leb m n (omega (arith, h)))
is_told Equal m n h = sym (le-leb m n (omega (arith, h)))
is_told Greater m n h = sym (lt-leb m n h)

pub as_long : (a b : List ℕ) → length a ≡ length b → all_digits a ≡ true → all_digits b ≡ true → is_le (slice_cmp nat_cmp a b) ≡ leb (number_of a) (number_of b)
as_long a b same da db = is_told (slice_cmp nat_cmp a b) (number_of a) (number_of b) (tells a b same da db)

pub by_length : (a b : List ℕ) → (length a ≡ length b → ⊥) → all_digits a ≡ true → all_digits b ≡ true → begins_zero a ≡ false → begins_zero b ≡ false → ltb (length a) (length b) ≡ leb (number_of a) (number_of b)
by_length a b other da db fa fb = elim (cases_lt (length a) (length b)) [
  | inl less ↦
      let more = longer a b da db fb less in
      lt-ltb (length a) (length b) less ∙ sym (le-leb (number_of a) (number_of b) (omega arith))
  | inr not_less ↦
      let down : length b < length a = (elim (cases_lt (length b) (length a)) [ inl l ↦ l | inr not_down ↦ absurd (other (omega arith)) ]) in
      let more = longer b a db da fa down in
      le-ltb (length a) (length b) (omega arith) ∙ sym (lt-leb (number_of a) (number_of b) more)
]
