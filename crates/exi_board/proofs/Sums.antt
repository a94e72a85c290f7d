-- Sums over lists that change at one place.
use Rattle.std.proofs.Common.{◌≡◌, ℕ, zero, suc, ◌+◌, ◌<◌, ◌≤◌, ◌≢◌, List, [], ◌∷◌, ◌++◌, set, sym, refl, ap, arith, cond, eq-eqb, ne_eqb, ◌∙◌}
use mathlib.Core.Logic.{dite}
use native.Mathlib.Decide.{ℕ_discrete}
use mathlib.Core.Option.{some, some-injective, some-ne-none}
use lib.ListN.{get_elem?}
use Rattle.exi_board.specs.Views.{total, below, one_if}

module _ {A : Type 0} where
  pub total_le : (f g : A → ℕ) (l : List A) → ((x : A) → f x ≤ g x) → total f l ≤ total g l
  total_le f g [] h = omega arith
  total_le f g (x ∷ xs) h = omega (arith, h x, total_le f g xs h)

  pub total_le_at : (f g : A → ℕ) (l : List A) → ((i : ℕ) (x : A) → get_elem? l i ≡ some x → f x ≤ g x) → total f l ≤ total g l
  total_le_at f g [] h = omega arith
  total_le_at f g (x ∷ xs) h = omega (arith, h 0 x refl, total_le_at f g xs (λ i y e. h (suc i) y e))

  module _ (g : A → ℕ) where
    pub total-append : (l m : List A) → total g (l ++ m) ≡ total g l + total g m
    total-append [] m = omega arith
    total-append (x ∷ xs) m = omega (arith, total-append xs m)

    pub total-set : (l : List A) (j : ℕ) (v w : A) → get_elem? l j ≡ some v → total g (set l j w) + g v ≡ total g l + g w
    total-set [] j v w e = absurd (some-ne-none v (sym e))
    total-set (x ∷ xs) zero v w e = omega (arith, ap g (some-injective x v e))
    total-set (x ∷ xs) (suc j) v w e = omega (arith, total-set xs j v w e)

    pub term_le : (l : List A) (j : ℕ) (v : A) → get_elem? l j ≡ some v → g v ≤ total g l
    term_le [] j v e = absurd (some-ne-none v (sym e))
    term_le (x ∷ xs) zero v e = omega (arith, ap g (some-injective x v e))
    term_le (x ∷ xs) (suc j) v e = omega (arith, term_le xs j v e)

    pub terms_le : (l : List A) (j k : ℕ) (v u : A) → k ≢ j → get_elem? l j ≡ some v → get_elem? l k ≡ some u → g v + g u ≤ total g l
    terms_le [] j k v u n e d = absurd (some-ne-none v (sym e))
    terms_le (x ∷ xs) zero zero v u n e d = absurd (n refl)
    terms_le (x ∷ xs) zero (suc k) v u n e d = omega (arith, ap g (some-injective x v e), term_le xs k u d)
    terms_le (x ∷ xs) (suc j) zero v u n e d = omega (arith, ap g (some-injective x u d), term_le xs j v e)
    terms_le (x ∷ xs) (suc j) (suc k) v u n e d = omega (arith, terms_le xs j k v u (λ h. n (ap suc h)) e d)

pub same_one : (h : ℕ) → one_if h h ≡ 1
same_one h = ap (λ b. cond b 1 0) (eq-eqb h h refl)

pub other_one : (h x : ℕ) → x ≢ h → one_if h x ≡ 0
other_one h x n = ap (λ b. cond b 1 0) (ne_eqb x h n)

-- one more of the number k
pub added : (k : ℕ) (xs : List ℕ) → total (one_if k) (xs ++ k ∷ []) ≡ total (one_if k) xs + 1
added k xs = omega (arith, total-append (one_if k) xs (k ∷ []), same_one k)

pub added_other : (h k : ℕ) (xs : List ℕ) → h ≢ k → total (one_if h) (xs ++ k ∷ []) ≡ total (one_if h) xs
added_other h k xs n = omega (arith, total-append (one_if h) xs (k ∷ []), other_one h k (λ e. n (sym e)))

pub added_one : (h k : ℕ) (xs : List ℕ) → total (one_if h) (xs ++ k ∷ []) ≡ total (one_if h) xs + one_if h k
added_one h k xs = omega (arith, total-append (one_if h) xs (k ∷ []))

pub below_more : (f : ℕ → ℕ) (n : ℕ) → below f (n + 1) ≡ below f n + f n
below_more f n = let e : n + 1 ≡ suc n = omega arith in ap (below f) e

-- a number stands among those below n once, or not at all
once_below : (h n : ℕ) → (h < n → below (one_if h) n ≡ 1) × (n ≤ h → below (one_if h) n ≡ 0)
once_below h zero = ((λ lt. absurd (omega arith)), λ _. refl)
once_below h (suc n) =
    let before = once_below h n in
    dite (ℕ_discrete n h)
    (λ e. let none = before.1 (omega arith) in let one : one_if h n ≡ 1 = ap (one_if h) e ∙ same_one h in ((λ _. omega arith), λ le. absurd (omega arith)))
    (λ d. let none : one_if h n ≡ 0 = other_one h n d in ((λ lt. let b = before.0 (omega arith) in omega arith), λ le. let b = before.1 (omega arith) in omega arith))

pub below_once : (h n : ℕ) → h < n → below (one_if h) n ≡ 1
below_once h n = (once_below h n).0

pub once_above : (h n : ℕ) → n ≤ h → below (one_if h) n ≡ 0
once_above h n = (once_below h n).1
