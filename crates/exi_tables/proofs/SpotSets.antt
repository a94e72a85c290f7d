-- Places one more or one less.
use Rattle.std.proofs.Common.{◌≡◌, ◌≢◌, ℕ, suc, ◌<◌, ◌||◌, Bool, true, false, cond, eqb, ltb, List, [], ◌∷◌, All, refl, sym, ap, ◌∙◌, arith, inl, inr, true≢false}
use Rattle.std.specs.Ordering.{is_eq, nat_cmp}
use Rattle.std.specs.declared.cmp.Ordering.TheVariants.{Less, Equal, Greater}
use Rattle.std.proofs.lemmas.Bool.{cases_Bool, eqb-true, eqb-false, eq-eqb, ltb-true, ne_eqb}
use Rattle.exi_tables.specs.Spots.{holds}

is_equal : (b : Bool) → is_eq (cond b Equal Greater) ≡ b
is_equal true = refl
is_equal false = refl

pub eq_tests : (a b : ℕ) → is_eq (nat_cmp a b) ≡ eqb a b
eq_tests a b = elim (cases_Bool (ltb a b)) [
  | inl less ↦ let lt : a < b = ltb-true a b less in rw less (sym (ne_eqb a b (λ e. absurd (omega (arith, e, lt)))))
  | inr past ↦ rw past (is_equal (eqb a b))
]

not_less : (b : Bool) → cond b Equal Greater ≡ Less → ⊥
not_less true e = absurd cc
not_less false e = absurd cc

less_is : (a b : ℕ) → nat_cmp a b ≡ Less → a < b
less_is a b e = elim (cases_Bool (ltb a b)) [
  | inl less ↦ ltb-true a b less
  | inr past ↦ absurd (not_less (eqb a b) (rw past at e))
]

swapped : (a b : ℕ) → eqb a b ≡ eqb b a
swapped a b = elim (cases_Bool (eqb a b)) [
  | inl yes_is ↦ yes_is ∙ sym (eq-eqb b a (sym (eqb-true a b yes_is)))
  | inr no_is ↦ no_is ∙ sym (ne_eqb b a (λ e. eqb-false a b no_is (sym e)))
]

abbrev pub Rises : ℕ → List ℕ → Type 0
Rises least places = (place : ℕ) → holds places place ≡ true → least < place

-- the list is as before, but for one place
abbrev pub Put : ℕ → Bool → List ℕ → List ℕ → Type 0
Put place b old new = (q : ℕ) → holds new q ≡ cond (is_eq (nat_cmp place q)) b (holds old q)

-- ---- a place more
-- one above the least, or as great as what is below all others
pub rises_more : (least place : ℕ) (old new : List ℕ) → Put place true old new → least < place → Rises least old → Rises least new
rises_more least place old new put above rises q h = elim (cases_Bool (is_eq (nat_cmp place q))) [
  | inl yes_is ↦ let is : place ≡ q = eqb-true place q (sym (eq_tests place q) ∙ yes_is) in omega (arith, is, above)
  | inr no_is ↦ rises q (sym (rw no_is at (put q)) ∙ h)
]

-- a new least
pub rises_below : (least place : ℕ) (old new : List ℕ) → Put least true old new → place < least → Rises least old → Rises place new
rises_below least place old new put below rises q h = elim (cases_Bool (is_eq (nat_cmp least q))) [
  | inl yes_is ↦ let is : least ≡ q = eqb-true least q (sym (eq_tests least q) ∙ yes_is) in omega (arith, is, below)
  | inr no_is ↦ let lt : least < q = rises q (sym (rw no_is at (put q)) ∙ h) in omega (arith, lt, below)
]

or_true : (a : Bool) → (a || true) ≡ true
or_true true = refl
or_true false = refl

or_swap : (a b c : Bool) → (a || (b || c)) ≡ (b || (a || c))
or_swap true true c = refl
or_swap true false c = refl
or_swap false b c = refl

put_is : (a : Bool) (h : Bool) → cond a true h ≡ (a || h)
put_is true h = refl
put_is false h = refl

pub spots_below : (least place : ℕ) (old new : List ℕ) → Put least true old new → (other : ℕ) → (eqb other place || holds new other) ≡ (eqb other place || (eqb other least || holds old other))
spots_below least place old new put other =
    let e : holds new other ≡ (eqb other least || holds old other) = put other ∙ put_is (is_eq (nat_cmp least other)) (holds old other) ∙ ap (λ b. b || holds old other) (eq_tests least other ∙ swapped least other) in
    ap (λ b. eqb other place || b) e

pub spots_more : (least place : ℕ) (old new : List ℕ) → Put place true old new → (other : ℕ) → (eqb other least || holds new other) ≡ (eqb other place || (eqb other least || holds old other))
spots_more least place old new put other =
    let e : holds new other ≡ (eqb other place || holds old other) = put other ∙ put_is (is_eq (nat_cmp place other)) (holds old other) ∙ ap (λ b. b || holds old other) (eq_tests place other ∙ swapped place other) in
    ap (λ b. eqb other least || b) e ∙ or_swap (eqb other least) (eqb other place) (holds old other)

-- ---- a place less
pub rises_less : (least place : ℕ) (old new : List ℕ) → Put place false old new → Rises least old → Rises least new
rises_less least place old new put rises q h = elim (cases_Bool (is_eq (nat_cmp place q))) [
  | inl yes_is ↦ absurd (true≢false (sym h ∙ rw yes_is at (put q)))
  | inr no_is ↦ rises q (sym (rw no_is at (put q)) ∙ h)
]

pub spots_less : (least place : ℕ) (old new : List ℕ) → Put place false old new → (other : ℕ) → other ≢ place → (eqb other least || holds new other) ≡ (eqb other least || holds old other)
spots_less least place old new put other apart =
    let no_is : is_eq (nat_cmp place other) ≡ false = eq_tests place other ∙ ne_eqb place other (λ e. apart (sym e)) in
    ap (λ b. eqb other least || b) (rw no_is at (put other))

abbrev Below : ℕ → ℕ → Type 0
Below next q = nat_cmp next q ≡ Less

pub rises_all : (next : ℕ) (places : List ℕ) → All (Below next) places → Rises next places
rises_all next [] all q h = absurd (true≢false (sym h))
rises_all next (p ∷ ps) all q h = elim (cases_Bool (is_eq (nat_cmp q p))) [
  | inl yes_is ↦
      let is : q ≡ p = eqb-true q p (sym (eq_tests q p) ∙ yes_is) in
      let lt : next < p = less_is next p (all 0 p (omega arith)) in omega (arith, is, lt)
  | inr no_is ↦ rises_all next ps (λ i d within. all (suc i) d (omega (arith, within))) q (rw no_is at h)
]
