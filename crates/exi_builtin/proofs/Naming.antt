-- A name's grammar is found by the number that is kept for the name; and a grammar is changed at its place.
use Rattle.std.proofs.Common.{◌≡◌, ℕ, zero, suc, ◌<◌, ◌+◌, Bool, true, false, cond, List, [], ◌∷◌, ◌++◌, length, set, get_or, refl, ap, subst, sym, ◌∙◌, arith, inl, inr, Option, Some, None, Result, Ok, Err}
use Rattle.std.specs.Prelude.{position, OnErr, OnOk, ◌&&◌, nat_eq}
use Rattle.std.specs.List.{position_from}
use Rattle.std.proofs.lemmas.Bool.{cases_Bool, eq-eqb, eqb-false, eqb-true, ne_eqb}
use Rattle.std.proofs.lemmas.Iterator.Adapters.{position_from-zero}
use Rattle.exi_names.specs.declared.names.NameId.{NameId}
use Rattle.exi_builtin.specs.declared.element_grammar.ElementGrammar.{ElementGrammar}
use Rattle.exi_builtin.specs.Kept.{IsNumbered}
use Rattle.exi_builtin.specs.Learning.{changed_at, new_grammar}
use Rattle.exi_names.specs.NameMaps.{same_name}

pub on_ok : {T E P Q : Type 0} (r : Result T E) → OnOk r P → (P → Q) → OnOk r Q
on_ok (Ok x) p follows = follows p
on_ok (Err e) p follows = tt

-- the grammar at a place, changed
pub set-changed_at : (change : ElementGrammar → ElementGrammar) (gs : List ElementGrammar) (i : ℕ) (g : ElementGrammar) → i < length gs → g ≡ get_or gs i g → set gs i (change g) ≡ changed_at gs i change
set-changed_at change [] i g h e = absurd (omega (arith, h))
set-changed_at change (x ∷ xs) zero g h e = ap (λ y. change y ∷ xs) e
set-changed_at change (x ∷ xs) (suc i) g h e =
    let within : i < length xs = omega (arith, h) in ap (λ ys. x ∷ ys) (set-changed_at change xs i g within e)

-- ---- one more grammar
from_new : {X : Type 0} (p : X → Bool) (i : ℕ) (xs : List X) (x : X) → position_from p i xs ≡ None → p x ≡ true → position_from p i (xs ++ x ∷ []) ≡ Some (i + length xs)
from_new p i [] x none passes = let same : i + 0 ≡ i = omega arith in rw (passes, same) refl
from_new p i (y ∷ ys) x none passes = elim (cases_Bool (p y)) [
  | inl yes_is ↦ let wrong : Some i ≡ None = rw yes_is at none in absurd (cc)
  | inr no_is ↦
      let rest : position_from p (i + 1) ys ≡ None = rw no_is at none in
      let same : i + 1 + length ys ≡ i + length (y ∷ ys) = omega arith in
      rw no_is (rw same at (from_new p (i + 1) ys x rest passes))
]

from_other : {X : Type 0} (p : X → Bool) (i : ℕ) (xs : List X) (x : X) → p x ≡ false → position_from p i (xs ++ x ∷ []) ≡ position_from p i xs
from_other p i [] x past = rw past refl
from_other p i (y ∷ ys) x past = ap (λ o. cond (p y) (Some i) o) (from_other p (i + 1) ys x past)

pub position_new : {X : Type 0} (p : X → Bool) (xs : List X) (x : X) → position p xs ≡ None → p x ≡ true → position p (xs ++ x ∷ []) ≡ Some (length xs)
position_new p xs x none passes =
    let absent : position_from p 0 xs ≡ None = sym (position_from-zero p xs) ∙ none in
    let same : 0 + length xs ≡ length xs = omega arith in
    position_from-zero p (xs ++ x ∷ []) ∙ rw same at (from_new p 0 xs x absent passes)

pub position_other : {X : Type 0} (p : X → Bool) (xs : List X) (x : X) → p x ≡ false → position p (xs ++ x ∷ []) ≡ position p xs
position_other p xs x past = position_from-zero p (xs ++ x ∷ []) ∙ from_other p 0 xs x past ∙ sym (position_from-zero p xs)

-- ---- names
both : (a b : Bool) → (a && b) ≡ true → (a ≡ true) × (b ≡ true)
both true b h = (refl, h)
both false b h = absurd (cc)

pub same_is : (a b : NameId) → same_name a b ≡ true → a ≡ b
same_is a b h =
    let parts = both (nat_eq a.uri b.uri) (nat_eq a.local b.local) h in
    let uri : a.uri ≡ b.uri = eqb-true a.uri b.uri parts.0 in
    let local : a.local ≡ b.local = eqb-true a.local b.local parts.1 in
    ap (λ u. record { uri = u; local = a.local }) uri ∙ ap (λ l. record { uri = b.uri; local = l }) local

eqb_swapped : (a b : ℕ) → nat_eq a b ≡ nat_eq b a
eqb_swapped a b = elim (cases_Bool (nat_eq a b)) [
  | inl yes_is ↦ yes_is ∙ sym (eq-eqb b a (sym (eqb-true a b yes_is)))
  | inr no_is ↦ no_is ∙ sym (ne_eqb b a (λ e. eqb-false a b no_is (sym e)))
]

pub same_itself : (a : NameId) → same_name a a ≡ true
same_itself a = rw (eq-eqb a.uri a.uri refl, eq-eqb a.local a.local refl) refl

same_swapped : (a b : NameId) → same_name a b ≡ same_name b a
same_swapped a b = rw (eqb_swapped a.uri b.uri, eqb_swapped a.local b.local) refl

-- the numbers are right with one more grammar
pub numbers_push : (gs : List ElementGrammar) (name other : NameId) (old new : Option ℕ) (number : ℕ) → number ≡ length gs →
    position (λ (g : ElementGrammar). same_name g.name name) gs ≡ None → old ≡ position (λ (g : ElementGrammar). same_name g.name other) gs →
    new ≡ cond (same_name other name) (Some number) old →
    new ≡ position (λ (g : ElementGrammar). same_name g.name other) (gs ++ new_grammar name ∷ [])
numbers_push gs name other old new number at absent kept set = elim (cases_Bool (same_name other name)) [
  | inl yes_is ↦
      let is : other ≡ name = same_is other name yes_is in
      let here : same_name name other ≡ true = same_swapped name other ∙ yes_is in
      let none : position (λ (g : ElementGrammar). same_name g.name other) gs ≡ None = rw is absent in
      let found : new ≡ Some number = rw yes_is at set in
      found ∙ ap Some at ∙ sym (position_new (λ (g : ElementGrammar). same_name g.name other) gs (new_grammar name) none here)
  | inr no_is ↦
      let here : same_name name other ≡ false = same_swapped name other ∙ no_is in
      let found : new ≡ old = rw no_is at set in
      found ∙ kept ∙ sym (position_other (λ (g : ElementGrammar). same_name g.name other) gs (new_grammar name) here)
]

-- ---- a grammar changed, with its name
pub length_changed : (gs : List ElementGrammar) (n : ℕ) (change : ElementGrammar → ElementGrammar) → length (changed_at gs n change) ≡ length gs
length_changed [] n change = refl
length_changed (g ∷ gs) zero change = omega arith
length_changed (g ∷ gs) (suc n) change = omega (arith, length_changed gs n change)

from_changed : (name : NameId) (i : ℕ) (gs : List ElementGrammar) (n : ℕ) (change : ElementGrammar → ElementGrammar) → ((g : ElementGrammar) → (change g).name ≡ g.name) →
    position_from (λ (g : ElementGrammar). same_name g.name name) i (changed_at gs n change) ≡ position_from (λ (g : ElementGrammar). same_name g.name name) i gs
from_changed name i [] n change keeps = refl
from_changed name i (g ∷ gs) zero change keeps = ap (λ m. cond (same_name m name) (Some i) (position_from (λ (h : ElementGrammar). same_name h.name name) (i + 1) gs)) (keeps g)
from_changed name i (g ∷ gs) (suc n) change keeps = ap (λ found. cond (same_name g.name name) (Some i) found) (from_changed name (i + 1) gs n change keeps)

pub position_changed : (name : NameId) (gs : List ElementGrammar) (n : ℕ) (change : ElementGrammar → ElementGrammar) → ((g : ElementGrammar) → (change g).name ≡ g.name) →
    position (λ (g : ElementGrammar). same_name g.name name) (changed_at gs n change) ≡ position (λ (g : ElementGrammar). same_name g.name name) gs
position_changed name gs n change keeps =
    position_from-zero (λ (g : ElementGrammar). same_name g.name name) (changed_at gs n change) ∙ from_changed name 0 gs n change keeps ∙ sym (position_from-zero (λ (g : ElementGrammar). same_name g.name name) gs)

-- the numbers stay right, whether it was changed or memory was refused
pub numbered_changed : {T E : Type 0} (gs new : List ElementGrammar) (rows : List (List (Option ℕ))) (n : ℕ) (change : ElementGrammar → ElementGrammar) (r : Result T E) → ((g : ElementGrammar) → (change g).name ≡ g.name) →
    OnOk r (new ≡ changed_at gs n change) → OnErr r (new ≡ gs) → IsNumbered gs rows → IsNumbered new rows
numbered_changed gs new rows n change (Ok x) keeps ok err numbered =
    subst (λ (xs : List ElementGrammar). IsNumbered xs rows) (sym ok)
    (record {
      numbers = λ name. numbered.numbers name ∙ sym (position_changed name gs n change keeps);
      few = omega (arith, numbered.few, length_changed gs n change);
    })
numbered_changed gs new rows n change (Err e) keeps ok err numbered = subst (λ (xs : List ElementGrammar). IsNumbered xs rows) (sym err) numbered
