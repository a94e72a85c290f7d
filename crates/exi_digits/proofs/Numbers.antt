-- Laws of the numbers that digits spell.
use Rattle.std.proofs.Common.{◌≡◌, ℕ, suc, ◌+◌, ◌*◌, ◌-◌, ◌^◌, ◌<◌, ◌≤◌, Bool, true, false, ◌&&◌, List, [], ◌∷◌, ◌++◌, length, get_or, drop, refl, sym, ap, ◌∙◌, subst, arith, inl, inr, leb, Option, Some, None}
use Rattle.std.specs.Prelude.{reverse}
use Rattle.std.proofs.lemmas.List.{length-append, reverse-append, drop_more, drop_all}
use Rattle.std.proofs.lemmas.Nat.{pow-add}
use Rattle.std.proofs.Math.Nat.{pow-suc, mul_comm, mul-le-mul_right, one-le-pow, pow-le-pow_right}
use Rattle.std.proofs.lemmas.Bool.{and_parts, cases_Bool, cases_lt, leb-true, lt-ltb, le-ltb}
use Rattle.exi_digits.specs.Digits.{is_digit, all_digits, number_of, kept, number_behind, digit_behind, number_in, back_in}

-- ---- 10 to a power
pub ten_up : (k : ℕ) → 10 ^ suc k ≡ 10 ^ k * 10
ten_up k = pow-suc 10 k

pub ten_pos : (k : ℕ) → 1 ≤ 10 ^ k
ten_pos k = one-le-pow k 10 (omega arith)

-- ---- which texts are digits
pub all_digits-append : (a b : List ℕ) → all_digits (a ++ b) ≡ all_digits a && all_digits b
all_digits-append [] b = refl
all_digits-append (c ∷ a) b =
    elim (cases_Bool (is_digit c)) [
      | inl yes_is ↦ rw (yes_is, all_digits-append a b) refl
      | inr no_is ↦ rw no_is refl
    ]

and_true : (b : Bool) → b && true ≡ b
and_true true = refl
and_true false = refl

and_swap : (a b : Bool) → a && b ≡ b && a
and_swap true b = sym (and_true b)
and_swap false true = refl
and_swap false false = refl

pub all_digits-reverse : (a : List ℕ) → all_digits (reverse a) ≡ all_digits a
all_digits-reverse [] = refl
all_digits-reverse (c ∷ a) =
    let e : reverse (c ∷ a) ≡ reverse a ++ c ∷ [] = reverse-append (c ∷ []) a in
    rw (e, all_digits-append (reverse a) (c ∷ []), all_digits-reverse a, and_true (is_digit c)) (and_swap (all_digits a) (is_digit c))

-- ---- the number of digits that stand behind others
pub number_of-append : (a b : List ℕ) → number_of (a ++ b) ≡ number_of a * 10 ^ length b + number_of b
number_of-append [] b = omega arith
number_of-append (c ∷ a) b = rw (length-append a b, pow-add 10 (length a) (length b)) (omega (arith, number_of-append a b))

pub number_of-push : (a : List ℕ) (c : ℕ) → number_of (a ++ c ∷ []) ≡ number_of a * 10 + (c - 48)
number_of-push a c = number_of-append a (c ∷ []) ∙ (omega arith)

-- ---- what 128 bits hold
pub kept_some : (n : ℕ) → n < 2 ^ 128 → kept n ≡ Some n
kept_some n low = rw (lt-ltb n (2 ^ 128) low) refl

pub kept_none : (n : ℕ) → 2 ^ 128 ≤ n → kept n ≡ None
kept_none n high = rw (le-ltb n (2 ^ 128) high) refl

pub kept_is : (n m : ℕ) → kept n ≡ Some m → (n ≡ m) × (n < 2 ^ 128)
kept_is n m e =
    elim (cases_lt n (2 ^ 128)) [
      | inl low ↦ let k = kept_some n low in (cc, low)
      | inr high ↦ let k = kept_none n high in absurd (cc)
    ]

pub kept_not : (n : ℕ) → kept n ≡ None → 2 ^ 128 ≤ n
kept_not n e =
    elim (cases_lt n (2 ^ 128)) [
      | inl low ↦ let k = kept_some n low in absurd (cc)
      | inr high ↦ high
    ]

-- ---- one digit after another
digit_is : (b c : ℕ) → is_digit c ≡ true → digit_behind b c ≡ kept (b * 10 + (c - 48))
digit_is b c yes_is = rw yes_is refl

no_digit : (b c : ℕ) → is_digit c ≡ false → digit_behind b c ≡ None
no_digit b c no_is = rw no_is refl

pub digit_behind_is : (b c n : ℕ) → digit_behind b c ≡ Some n → (is_digit c ≡ true) × (b * 10 + (c - 48) ≡ n) × (n < 2 ^ 128)
digit_behind_is b c n e =
    elim (cases_Bool (is_digit c)) [
      | inl yes_is ↦
          let k = kept_is (b * 10 + (c - 48)) n (sym (digit_is b c yes_is) ∙ e) in
          let low : b * 10 + (c - 48) < 2 ^ 128 = k.1 in
          let same : b * 10 + (c - 48) ≡ n = k.0 in
          (yes_is, same, omega arith)
      | inr no_is ↦ let k = no_digit b c no_is in absurd (cc)
    ]

shifted : (b d p m : ℕ) → b * (p * 10) + (d * p + m) ≡ (b * 10 + d) * p + m
shifted b d p m = omega arith

number_shifted : (b c : ℕ) (cs : List ℕ) → b * 10 ^ length (c ∷ cs) + number_of (c ∷ cs) ≡ (b * 10 + (c - 48)) * 10 ^ length cs + number_of cs
number_shifted b c cs = rw (ten_up (length cs)) (shifted b (c - 48) (10 ^ length cs) (number_of cs))

-- the digits go on as the number behind which they stand
pub behind_some : (b c n : ℕ) (cs : List ℕ) → digit_behind b c ≡ Some n → number_behind b (c ∷ cs) ≡ number_behind n cs
behind_some b c n cs e =
    let p = digit_behind_is b c n e in
    let same : (b * 10 + (c - 48)) * 10 ^ length cs + number_of cs ≡ n * 10 ^ length cs + number_of cs = ap (λ (x : ℕ). x * 10 ^ length cs + number_of cs) p.1 in
    elim (cases_Bool (all_digits cs)) [
      | inl yes_is ↦ rw (p.0, yes_is) (ap kept (number_shifted b c cs ∙ same))
      | inr no_is ↦ rw (p.0, no_is) refl
    ]

grows : (n p m : ℕ) → 1 ≤ p → n ≤ n * p + m
grows n p m pos =
    let h : 1 * n ≤ p * n = mul-le-mul_right n pos in
    omega (arith, mul_comm n p)

pub behind_none : (b c : ℕ) (cs : List ℕ) → digit_behind b c ≡ None → number_behind b (c ∷ cs) ≡ None
behind_none b c cs e =
    elim (cases_Bool (is_digit c)) [
      | inr no_is ↦ rw no_is refl
      | inl yes_is ↦
          let high : 2 ^ 128 ≤ b * 10 + (c - 48) = kept_not (b * 10 + (c - 48)) (sym (digit_is b c yes_is) ∙ e) in
          let more = grows (b * 10 + (c - 48)) (10 ^ length cs) (number_of cs) (ten_pos (length cs)) in
          let whole : 2 ^ 128 ≤ b * 10 ^ length (c ∷ cs) + number_of (c ∷ cs) = rw number_shifted (omega arith) in
          elim (cases_Bool (all_digits cs)) [
            | inl all ↦ rw (yes_is, all) (kept_none (b * 10 ^ length (c ∷ cs) + number_of (c ∷ cs)) whole)
            | inr some ↦ rw (yes_is, some) refl
          ]
    ]

pub behind_nil : (b : ℕ) → b < 2 ^ 128 → number_behind b [] ≡ Some b
behind_nil b low = let e : b * 1 + 0 ≡ b = omega arith in ap kept e ∙ kept_some b low

-- behind nothing stands the number itself
pub behind_zero : (text : List ℕ) → all_digits text ≡ true → number_behind 0 text ≡ kept (number_of text)
behind_zero text all = let e : 0 * 10 ^ length text + number_of text ≡ number_of text = omega arith in rw all (ap kept e)

pub behind_no_digits : (b : ℕ) (text : List ℕ) → all_digits text ≡ false → number_behind b text ≡ None
behind_no_digits b text no_is = rw no_is refl

pub number_in_is : (c : ℕ) (cs : List ℕ) → number_behind 0 (c ∷ cs) ≡ number_in (c ∷ cs)
number_in_is c cs = let e : 0 * 10 ^ length (c ∷ cs) + number_of (c ∷ cs) ≡ number_of (c ∷ cs) = omega arith in rw e refl

pub back_in_is : (text : List ℕ) → number_behind 0 (reverse text) ≡ back_in text
back_in_is text =
    let e : 0 * 10 ^ length (reverse text) + number_of (reverse text) ≡ number_of (reverse text) = omega arith in
    rw (all_digits-reverse text, e) refl

-- ---- for the loops
pub behind_step : (b n i : ℕ) (xs : List ℕ) → i < length xs → digit_behind b (get_or xs i 0) ≡ Some n → number_behind b (drop i xs) ≡ number_behind n (drop (i + 1) xs)
behind_step b n i xs lt e = ap (number_behind b) (drop_more xs i 0 lt) ∙ behind_some b (get_or xs i 0) n (drop (i + 1) xs) e

pub behind_stop : (b i : ℕ) (xs : List ℕ) → i < length xs → digit_behind b (get_or xs i 0) ≡ None → number_behind b (drop i xs) ≡ None
behind_stop b i xs lt e = ap (number_behind b) (drop_more xs i 0 lt) ∙ behind_none b (get_or xs i 0) (drop (i + 1) xs) e

pub behind_end : (b i : ℕ) (xs : List ℕ) → b < 2 ^ 128 → length xs ≤ i → number_behind b (drop i xs) ≡ Some b
behind_end b i xs low le = ap (number_behind b) (drop_all i xs le) ∙ behind_nil b low

last_first : (xs : List ℕ) (x : ℕ) → reverse (xs ++ x ∷ []) ≡ x ∷ reverse xs
last_first xs x = reverse-append xs (x ∷ [])

pub back_step : (b n x : ℕ) (xs ys : List ℕ) → xs ≡ ys ++ x ∷ [] → digit_behind b x ≡ Some n → number_behind b (reverse xs) ≡ number_behind n (reverse ys)
back_step b n x xs ys parts e = ap (λ (t : List ℕ). number_behind b (reverse t)) parts ∙ ap (number_behind b) (last_first ys x) ∙ behind_some b x n (reverse ys) e

pub back_stop : (b x : ℕ) (xs ys : List ℕ) → xs ≡ ys ++ x ∷ [] → digit_behind b x ≡ None → number_behind b (reverse xs) ≡ None
back_stop b x xs ys parts e = ap (λ (t : List ℕ). number_behind b (reverse t)) parts ∙ ap (number_behind b) (last_first ys x) ∙ behind_none b x (reverse ys) e

pub back_end : (b : ℕ) (xs : List ℕ) → b < 2 ^ 128 → length xs ≡ 0 → number_behind b (reverse xs) ≡ Some b
back_end b [] low e = behind_nil b low
back_end b (x ∷ xs) low e = absurd (omega (arith, e))

-- ---- a word of digits
number_low : (xs : List ℕ) → all_digits xs ≡ true → number_of xs < 10 ^ length xs
number_low [] all = omega arith
number_low (c ∷ cs) all =
    let p = and_parts (is_digit c) (all_digits cs) all in
    let d = and_parts (leb 48 c) (leb c 57) p.0 in
    let high : c ≤ 57 = leb-true c 57 d.1 in
    let low = number_low cs p.1 in
    let most : (c - 48) * 10 ^ length cs ≤ 9 * 10 ^ length cs = mul-le-mul_right (10 ^ length cs) (omega arith) in
    let up = ten_up (length cs) in
    omega (arith, low, most, up)

next_below : (i b c n : ℕ) → b < 10 ^ i → digit_behind b c ≡ Some n → n < 10 ^ suc i
next_below i b c n low e =
    let p = digit_behind_is b c n e in
    let d = and_parts (leb 48 c) (leb c 57) p.0 in
    let high : c ≤ 57 = leb-true c 57 d.1 in
    let up = ten_up i in
    let same = p.1 in
    omega (arith, up, same)

pub next_low : (i k b c n : ℕ) → suc i ≡ k → b < 10 ^ i → digit_behind b c ≡ Some n → n < 10 ^ k
next_low i k b c n next low e = subst (λ (j : ℕ). n < 10 ^ j) next (next_below i b c n low e)

pub low_enough : (i b : ℕ) → b < 10 ^ i → i ≤ 18 → b < 10 ^ 18
low_enough i b low few = let up : 10 ^ i ≤ 10 ^ 18 = pow-le-pow_right (omega arith) few in omega (arith, up)

pub low_word : (i b : ℕ) → b < 10 ^ i → i ≤ 19 → b < 2 ^ 128
low_word i b low few = let up : 10 ^ i ≤ 10 ^ 19 = pow-le-pow_right (omega arith) few in omega (arith, up)

parted : (b x p q m : ℕ) → b * (p * q) + (x * q + m) ≡ (b * p + x) * q + m
parted b x p q m = omega arith

number_parted : (b : ℕ) (xs ys : List ℕ) → b * 10 ^ length (xs ++ ys) + number_of (xs ++ ys) ≡ (b * 10 ^ length xs + number_of xs) * 10 ^ length ys + number_of ys
number_parted b xs ys =
    rw (length-append xs ys, pow-add 10 (length xs) (length ys), number_of-append xs ys) (parted b (number_of xs) (10 ^ length xs) (10 ^ length ys) (number_of ys))

-- the number of a word goes on as what it makes behind the number before
pub word_some : (b w n : ℕ) (xs ys : List ℕ) → number_behind 0 xs ≡ Some w → kept (b * 10 ^ length xs + w) ≡ Some n → number_behind b (xs ++ ys) ≡ number_behind n ys
word_some b w n xs ys word joined = elim (cases_Bool (all_digits xs)) [
  | inr some ↦ let k = behind_no_digits 0 xs some in absurd (cc)
  | inl all ↦
      let number : number_of xs ≡ w = (kept_is (number_of xs) w (sym (behind_zero xs all) ∙ word)).0 in
      let same : b * 10 ^ length xs + number_of xs ≡ n = ap (λ (x : ℕ). b * 10 ^ length xs + x) number ∙ (kept_is (b * 10 ^ length xs + w) n joined).0 in
      elim (cases_Bool (all_digits ys)) [
        | inl more ↦ rw (all_digits-append xs ys, all, more) (ap kept (number_parted b xs ys ∙ ap (λ (x : ℕ). x * 10 ^ length ys + number_of ys) same))
        | inr none ↦ rw (all_digits-append xs ys, all, none) refl
      ]
]

pub word_over : (b w : ℕ) (xs ys : List ℕ) → number_behind 0 xs ≡ Some w → kept (b * 10 ^ length xs + w) ≡ None → number_behind b (xs ++ ys) ≡ None
word_over b w xs ys word joined = elim (cases_Bool (all_digits xs)) [
  | inr some ↦ let k = behind_no_digits 0 xs some in absurd (cc)
  | inl all ↦
      let number : number_of xs ≡ w = (kept_is (number_of xs) w (sym (behind_zero xs all) ∙ word)).0 in
      let high : 2 ^ 128 ≤ b * 10 ^ length xs + number_of xs = rw number (kept_not (b * 10 ^ length xs + w) joined) in
      let more = grows (b * 10 ^ length xs + number_of xs) (10 ^ length ys) (number_of ys) (ten_pos (length ys)) in
      let whole : 2 ^ 128 ≤ b * 10 ^ length (xs ++ ys) + number_of (xs ++ ys) = rw (number_parted b xs ys) (omega (arith, more, high)) in
      elim (cases_Bool (all_digits ys)) [
        | inl digits ↦ rw (all_digits-append xs ys, all, digits) (kept_none (b * 10 ^ length (xs ++ ys) + number_of (xs ++ ys)) whole)
        | inr none ↦ rw (all_digits-append xs ys, all, none) refl
      ]
]

-- a word always has its number, if all are digits
pub word_none : (b : ℕ) (xs ys : List ℕ) → length xs ≤ 19 → number_behind 0 xs ≡ None → number_behind b (xs ++ ys) ≡ None
word_none b xs ys few word = elim (cases_Bool (all_digits xs)) [
  | inr some ↦ rw (all_digits-append xs ys, some) refl
  | inl all ↦
      let low = number_low xs all in
      let up : 10 ^ length xs ≤ 10 ^ 19 = pow-le-pow_right (omega arith) few in
      let k : kept (number_of xs) ≡ Some (number_of xs) = kept_some (number_of xs) (omega (arith, low, up)) in
      let z = behind_zero xs all in
      absurd (cc)
]

pub kept_low : (n m : ℕ) → kept n ≡ Some m → m < 2 ^ 128
kept_low n m e = let p = kept_is n m e in let same = p.0 in let low = p.1 in omega (arith, same, low)

-- the same of a word at the back, where the digits are read backwards
pub back_parts : (xs ys all : List ℕ) → all ≡ xs ++ ys → reverse all ≡ reverse ys ++ reverse xs
back_parts xs ys all parts = ap (λ (t : List ℕ). reverse t) parts ∙ reverse-append xs ys
