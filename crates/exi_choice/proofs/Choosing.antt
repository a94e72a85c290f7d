-- The production that is chosen is the first of those that stand for the event, where that has a spelling of it.
use Rattle.std.proofs.Common.{◌≡◌, ℕ, Bool, true, false, ◌&&◌, cond, eqb, List, [], ◌∷◌, length, Option, Some, None, refl, sym, ap, ◌∙◌, inl, inr}
use Rattle.std.proofs.lemmas.Bool.{and_parts, cases_Bool}
use Rattle.exi_gram.specs.Codes.{Coded}
use Rattle.exi_processing.specs.Rules.{Rule}
use Rattle.exi_writing.specs.OneEvent.{fewest, first_of}

-- ---- of each
abbrev pub Every : (Rule → Type 0) → List (Coded Rule) → Type 0
Every P [] = Unit {0}
Every P (x ∷ xs) = P x.item × Every P xs

pub every_map : (P Q : Rule → Type 0) → ((r : Rule) → P r → Q r) → (xs : List (Coded Rule)) → Every P xs → Every Q xs
every_map P Q f [] h = tt
every_map P Q f (x ∷ xs) h = (f x.item h.0, every_map P Q f xs h.1)

-- what passes the one test passes the other
abbrev pub Implies : (f s : Rule → Bool) → Rule → Type 0
Implies f s r = f r ≡ true → s r ≡ true

coded_is : (x y : Coded Rule) → Some x ≡ Some y → x ≡ y
coded_is x y e = cc

no_both : (a b : Bool) → (b ≡ true → ⊥) → (a && b) ≡ false
no_both true true h = absurd (h refl)
no_both true false h = refl
no_both false b h = refl

false_not : (b : Bool) → b ≡ false → b ≡ true → ⊥
false_not true h k = absurd cc
false_not false h k = cc

-- a test that passes nothing finds nothing
pub none_first : (n : ℕ) (f : Rule → Bool) (xs : List (Coded Rule)) → Every (λ r. f r ≡ false) xs → first_of n f xs ≡ None
none_first n f [] h = refl
none_first n f (x ∷ xs) h = rw (no_both (eqb (length x.parts) n) (f x.item) (false_not (f x.item) h.0)) (none_first n f xs h.1)

-- where the wider test finds nothing, the narrower finds nothing
pub wider_none : (n : ℕ) (f s : Rule → Bool) (xs : List (Coded Rule)) → Every (Implies f s) xs → first_of n s xs ≡ None → first_of n f xs ≡ None
wider_none n f s [] h e = refl
wider_none n f s (x ∷ xs) h e = elim (cases_Bool (eqb (length x.parts) n && s x.item)) [
  | inl k ↦ absurd (let q = rw k at e in cc)
  | inr k ↦ rw (narrow (eqb (length x.parts) n) k) (wider_none n f s xs h.1 (rw k at e))
]
  where
    narrow : (a : Bool) → (a && s x.item) ≡ false → (a && f x.item) ≡ false
    narrow true q = elim (cases_Bool (f x.item)) [
      | inl p ↦ absurd (let w = h.0 p in let z : s x.item ≡ false = q in cc)
      | inr p ↦ p
    ]
    narrow false q = refl

-- what the wider test finds is found by the narrower, where it passes that
pub wider_some : (n : ℕ) (f s : Rule → Bool) (xs : List (Coded Rule)) (x : Coded Rule) → Every (Implies f s) xs → first_of n s xs ≡ Some x → f x.item ≡ true → first_of n f xs ≡ Some x
wider_some n f s [] x h e p = absurd cc
wider_some n f s (y ∷ ys) x h e p = elim (cases_Bool (eqb (length y.parts) n && s y.item)) [
  | inl k ↦
      let same : y ≡ x = coded_is y x (rw k at e) in
      let passes : f y.item ≡ true = ap (λ (z : Coded Rule). f z.item) same ∙ p in
      let long : eqb (length y.parts) n ≡ true = (and_parts (eqb (length y.parts) n) (s y.item) k).0 in
      rw (long, passes) (ap (λ (z : Coded Rule). Some z) same)
  | inr k ↦ rw (narrow (eqb (length y.parts) n) k) (wider_some n f s ys x h.1 (rw k at e) p)
]
  where
    narrow : (a : Bool) → (a && s y.item) ≡ false → (a && f y.item) ≡ false
    narrow true q = elim (cases_Bool (f y.item)) [
      | inl w ↦ absurd (let z = h.0 w in let v : s y.item ≡ false = q in cc)
      | inr w ↦ w
    ]
    narrow false q = refl

abbrev pub kept_if : (Rule → Bool) → Option (Coded Rule) → Option (Coded Rule)
kept_if f None = None
kept_if f (Some x) = cond (f x.item) (Some x) None

-- Where one that stands passes or fails as each other that stands, the first that passes is the first that stands
pub first_kept : (f s : Rule → Bool) (xs : List (Coded Rule)) → Every (Implies f s) xs → ((x : Coded Rule) → fewest s xs ≡ Some x → f x.item ≡ false → Every (λ r. f r ≡ false) xs) → fewest f xs ≡ kept_if f (fewest s xs)
first_kept f s xs h fails = by_one (first_of 1 s xs) refl (first_of 2 s xs) refl (first_of 3 s xs) refl
  where
    none_at_all : Every (λ r. f r ≡ false) xs → fewest f xs ≡ None
    none_at_all k = rw (none_first 1 f xs k, none_first 2 f xs k, none_first 3 f xs k) refl

    found : (x : Coded Rule) → fewest s xs ≡ Some x → (f x.item ≡ true → fewest f xs ≡ Some x) → fewest f xs ≡ kept_if f (fewest s xs)
    found x e passes = elim (cases_Bool (f x.item)) [
      | inl p ↦ passes p ∙ sym (ap (kept_if f) e ∙ rw p refl)
      | inr p ↦ none_at_all (fails x e p) ∙ sym (ap (kept_if f) e ∙ rw p refl)
    ]

    by_one : (a : Option (Coded Rule)) → first_of 1 s xs ≡ a → (b : Option (Coded Rule)) → first_of 2 s xs ≡ b → (d : Option (Coded Rule)) → first_of 3 s xs ≡ d → fewest f xs ≡ kept_if f (fewest s xs)
    by_one (Some x) ea b eb d ed = found x (rw ea refl) (λ p. rw (wider_some 1 f s xs x h ea p) refl)
    by_one None ea (Some x) eb d ed = found x (rw (ea, eb) refl) (λ p. rw (wider_none 1 f s xs h ea, wider_some 2 f s xs x h eb p) refl)
    by_one None ea None eb (Some x) ed = found x (rw (ea, eb, ed) refl) (λ p. rw (wider_none 1 f s xs h ea, wider_none 2 f s xs h eb, wider_some 3 f s xs x h ed p) refl)
    by_one None ea None eb None ed = rw (wider_none 1 f s xs h ea, wider_none 2 f s xs h eb, wider_none 3 f s xs h ed) (rw (ea, eb, ed) refl)
