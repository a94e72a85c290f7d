-- How many steps are left in the states that are not seen yet.
use Rattle.std.proofs.Common.{◌≡◌, ℕ, zero, suc, ◌+◌, ◌-◌, ◌<◌, ◌≤◌, Bool, true, false, cond, inl, inr, List, [], ◌∷◌, ◌++◌, length, get_or, refl, sym, ap, ◌∙◌, arith}
use Rattle.std.specs.Prelude.{◌==◌, ◌||◌}
use Rattle.std.proofs.lemmas.Bool.{cases_Bool, cases_eq, eq-eqb, ne_eqb}
use Rattle.exi_gram.specs.Reaching.{is_among}

abbrev pub unseen : {X : Type 0} → ℕ → List (List X) → List ℕ → ℕ
unseen from [] seen = 0
unseen from (s ∷ ss) seen = cond (is_among from seen) 0 (length s) + unseen (suc from) ss seen

-- one more is seen
abbrev pub OneMore : ℕ → List ℕ → List ℕ → Type 0
OneMore p seen new = (q : ℕ) → is_among q new ≡ (q == p) || is_among q seen

unseen_past : {X : Type 0} (from : ℕ) (ss : List (List X)) (seen new : List ℕ) (p : ℕ) → OneMore p seen new → p < from → unseen from ss new ≡ unseen from ss seen
unseen_past from [] seen new p m past = refl
unseen_past from (s ∷ ss) seen new p m past =
    let e : is_among from new ≡ is_among from seen = m from ∙ ap (λ b. b || is_among from seen) (ne_eqb from p (λ e. absurd (omega (arith, e, past)))) in
    let h : unseen (suc from) ss new ≡ unseen (suc from) ss seen = unseen_past (suc from) ss seen new p m (omega (arith, past)) in
    λ i. cond (e i) 0 (length s) + h i

pub unseen_less : {X : Type 0} (from : ℕ) (ss : List (List X)) (seen new : List ℕ) (p : ℕ) → OneMore p seen new → from ≤ p → is_among p seen ≡ false
    → unseen from ss new + length (get_or ss (p - from) []) ≡ unseen from ss seen
unseen_less from [] seen new p m le f = refl
unseen_less from (s ∷ ss) seen new p m le f = elim (cases_eq p from) [
  | inl e ↦
      let now : is_among from new ≡ true = m from ∙ ap (λ b. b || is_among from seen) (eq-eqb from p (sym e)) in
      let was : is_among from seen ≡ false = ap (λ k. is_among k seen) (sym e) ∙ f in
      let at : get_or (s ∷ ss) (p - from) [] ≡ s = let z : p - from ≡ 0 = omega (arith, e) in ap (λ k. get_or (s ∷ ss) k []) z in
      let h : unseen (suc from) ss new ≡ unseen (suc from) ss seen = unseen_past (suc from) ss seen new p m (omega (arith, e)) in
      let a : cond (is_among from new) 0 (length s) ≡ 0 = ap (λ b. cond b 0 (length s)) now in
      let b : cond (is_among from seen) 0 (length s) ≡ length s = ap (λ b. cond b 0 (length s)) was in
      let c : length (get_or (s ∷ ss) (p - from) []) ≡ length s = ap length at in
      omega (arith, h, a, b, c)
  | inr n ↦
      let same : is_among from new ≡ is_among from seen = m from ∙ ap (λ b. b || is_among from seen) (ne_eqb from p (λ e. n (sym e))) in
      let at : get_or (s ∷ ss) (p - from) [] ≡ get_or ss (p - suc from) [] = let z : p - from ≡ suc (p - suc from) = omega (arith, n, le) in ap (λ k. get_or (s ∷ ss) k []) z in
      let h : unseen (suc from) ss new + length (get_or ss (p - suc from) []) ≡ unseen (suc from) ss seen = unseen_less (suc from) ss seen new p m (omega (arith, n, le)) f in
      let a : cond (is_among from new) 0 (length s) ≡ cond (is_among from seen) 0 (length s) = ap (λ b. cond b 0 (length s)) same in
      let c : length (get_or (s ∷ ss) (p - from) []) ≡ length (get_or ss (p - suc from) []) = ap length at in
      omega (arith, h, a, c)
]

pub unseen_from_start : {X : Type 0} (ss : List (List X)) (seen new : List ℕ) (p : ℕ) → OneMore p seen new → is_among p seen ≡ false
    → unseen 0 ss new + length (get_or ss p []) ≡ unseen 0 ss seen
unseen_from_start ss seen new p m f =
    let h : unseen 0 ss new + length (get_or ss (p - 0) []) ≡ unseen 0 ss seen = unseen_less 0 ss seen new p m (omega arith) f in
    let z : p - 0 ≡ p = omega arith in
    ap (λ k. unseen 0 ss new + length (get_or ss k [])) (sym z) ∙ h

-- in front, or at the end
pub more_in_front : (p : ℕ) (seen : List ℕ) → OneMore p seen (p ∷ seen)
more_in_front p seen q = refl

or_assoc : (a b c : Bool) → a || (b || c) ≡ b || (a || c)
or_assoc true true c = refl
or_assoc true false c = refl
or_assoc false true c = refl
or_assoc false false c = refl

pub more_at_end : (p : ℕ) (seen : List ℕ) → OneMore p seen (seen ++ p ∷ [])
more_at_end p [] q = refl
more_at_end p (s ∷ seen) q = ap (λ b. q == s || b) (more_at_end p seen q) ∙ or_assoc (q == s) (q == p) (is_among q seen)
