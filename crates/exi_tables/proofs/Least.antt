-- A look-up by text finds the least place.
use Rattle.std.proofs.Common.{◌≡◌, ◌≢◌, ℕ, zero, suc, ◌<◌, ◌≤◌, ◌+◌, ◌-◌, ◌^◌, Bool, not, cond, true, false, List, [], ◌∷◌, ◌++◌, length, get_or, refl, sym, ap, ◌∙◌, arith, inl, inr, ltb, Option, Some, None, length-append}
use Rattle.std.specs.Prelude.{position, slice_get, unwrap_or, option_and_then}
use Rattle.std.specs.List.{position_from}
use Rattle.std.proofs.lemmas.Iterator.Adapters.{position_from-zero}
use Rattle.std.specs.List.{prefix_len}
use Rattle.std.specs.Str.{bytes_eq}
use Rattle.std.proofs.lemmas.Bool.{cases_Bool, cases_lt, both_ways, lt-ltb}
use Rattle.std.proofs.lemmas.Slice.Eq.{bytes_eq-Decides}
use Rattle.std.proofs.lemmas.List.Quantifiers.{position-Some}
use Rattle.std.proofs.lemmas.Option.{slice_get-get_or, slice_get_within, get_or_from_slice_get}
use Rattle.exi_tables.specs.Partitions.{live_at, least_place}
use Rattle.exi_tables.specs.Growth.{IsLeast}

pub least_found : (partition : List (List ℕ)) (text : List ℕ) (place : ℕ) → least_place partition text ≡ Some place → IsLeast partition text place
least_found partition text place e =
    let at = position-Some (λ t. bytes_eq t text) partition place [] e in
    record {
      found = slice_get-get_or partition place [] at.0 ∙ ap Some ((bytes_eq-Decides (get_or partition place []) text).0 at.1);
      least = λ k below is.
          both_ways (bytes_eq (get_or partition k []) text) (at.2 k below)
          ((bytes_eq-Decides (get_or partition k []) text).1 (get_or_from_slice_get partition k text [] is));
    }

-- where an item passes, what stands before the first that does is not all
pub prefix_below : {X : Type 0} (p : X → Bool) (xs : List X) (k : ℕ) (d : X) → k < length xs → p (get_or xs k d) ≡ true → prefix_len (λ x. not (p x)) xs < length xs
prefix_below p [] k d within passes = absurd (omega (arith, within))
prefix_below p (x ∷ xs) zero d within passes = rw passes (omega arith)
prefix_below p (x ∷ xs) (suc k) d within passes =
    let in_rest : k < length xs = omega (arith, within) in
    let ih : prefix_len (λ y. not (p y)) xs < length xs = prefix_below p xs k d in_rest passes in
    elim (cases_Bool (p x)) [
      | inl yes_is ↦ rw yes_is (omega arith)
      | inr no_is ↦ rw no_is (omega (arith, ih))
    ]

none_some : {X : Type 0} (x : X) → Some x ≡ None → ⊥
none_some x e = absurd (cc)

pub least_none : (partition : List (List ℕ)) (text : List ℕ) (place : ℕ) → least_place partition text ≡ None → live_at partition place ≢ Some text
least_none partition text place none is =
    let within : place < length partition = slice_get_within partition place text is in
    let passes : bytes_eq (get_or partition place []) text ≡ true
    = (bytes_eq-Decides (get_or partition place []) text).1 (get_or_from_slice_get partition place text [] is) in
    let below : ltb (prefix_len (λ t. not (bytes_eq t text)) partition) (length partition) ≡ true
    = lt-ltb (prefix_len (λ t. not (bytes_eq t text)) partition) (length partition) (prefix_below (λ t. bytes_eq t text) partition place [] within passes) in
    none_some (prefix_len (λ t. not (bytes_eq t text)) partition) (rw below at none)

-- ---- one text more
from_append : {X : Type 0} (p : X → Bool) (k i : ℕ) (xs ys : List X) → position_from p k xs ≡ Some i → position_from p k (xs ++ ys) ≡ Some i
from_append p k i [] ys e = absurd (none_some i (sym e))
from_append p k i (x ∷ xs) ys e = elim (cases_Bool (p x)) [
  | inl yes_is ↦ rw yes_is (rw yes_is at e)
  | inr no_is ↦ rw no_is (from_append p (k + 1) i xs ys (rw no_is at e))
]

pub position_append : {X : Type 0} (p : X → Bool) (i : ℕ) (xs ys : List X) → position p xs ≡ Some i → position p (xs ++ ys) ≡ Some i
position_append p i xs ys e = position_from-zero p (xs ++ ys) ∙ from_append p 0 i xs ys (sym (position_from-zero p xs) ∙ e)

from_new : {X : Type 0} (p : X → Bool) (i : ℕ) (xs : List X) (x : X) → position_from p i xs ≡ None → p x ≡ true → position_from p i (xs ++ x ∷ []) ≡ Some (i + length xs)
from_new p i [] x none passes = let same : i + 0 ≡ i = omega arith in rw (passes, same) refl
from_new p i (y ∷ ys) x none passes = elim (cases_Bool (p y)) [
  | inl yes_is ↦ absurd (none_some i (rw yes_is at none))
  | inr no_is ↦
      let rest : position_from p (i + 1) ys ≡ None = rw no_is at none in
      let same : i + 1 + length ys ≡ i + length (y ∷ ys) = omega arith in
      rw no_is (rw same at (from_new p (i + 1) ys x rest passes))
]

pub position_new : {X : Type 0} (p : X → Bool) (xs : List X) (x : X) → position p xs ≡ None → p x ≡ true → position p (xs ++ x ∷ []) ≡ Some (length xs)
position_new p xs x none passes =
    let absent : position_from p 0 xs ≡ None = sym (position_from-zero p xs) ∙ none in
    let same : 0 + length xs ≡ length xs = omega arith in
    position_from-zero p (xs ++ x ∷ []) ∙ rw same at (from_new p 0 xs x absent passes)

from_other : {X : Type 0} (p : X → Bool) (i : ℕ) (xs : List X) (x : X) → p x ≡ false → position_from p i (xs ++ x ∷ []) ≡ position_from p i xs
from_other p i [] x past = rw past refl
from_other p i (y ∷ ys) x past = ap (λ o. cond (p y) (Some i) o) (from_other p (i + 1) ys x past)

pub position_other : {X : Type 0} (p : X → Bool) (xs : List X) (x : X) → p x ≡ false → position p (xs ++ x ∷ []) ≡ position p xs
position_other p xs x past = position_from-zero p (xs ++ x ∷ []) ∙ from_other p 0 xs x past ∙ sym (position_from-zero p xs)

-- the new text's least place
pub least_of_last : (xs : List (List ℕ)) (x : List ℕ) → least_place (xs ++ x ∷ []) x ≡ Some (unwrap_or (least_place xs x) (length xs))
least_of_last xs x = by (least_place xs x) refl
  where
    by : (o : Option ℕ) → least_place xs x ≡ o → least_place (xs ++ x ∷ []) x ≡ Some (unwrap_or o (length xs))
    by None e = position_new (λ t. bytes_eq t x) xs x e ((bytes_eq-Decides x x).1 refl)
    by (Some i) e = position_append (λ t. bytes_eq t x) i xs (x ∷ []) e

pub get_last : {X : Type 0} (xs : List X) (x : X) → slice_get (xs ++ x ∷ []) (length xs) ≡ Some x
get_last [] x = refl
get_last (y ∷ ys) x = get_last ys x

pub get_before : {X : Type 0} (xs : List X) (x : X) (k : ℕ) → k < length xs → slice_get (xs ++ x ∷ []) k ≡ slice_get xs k
get_before [] x k within = absurd (omega (arith, within))
get_before (y ∷ ys) x zero within = refl
get_before (y ∷ ys) x (suc k) within = get_before ys x k (omega (arith, within))
