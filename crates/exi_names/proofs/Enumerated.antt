-- The least place among values is the one among what they stand for.
use Rattle.std.proofs.Common.{◌≡◌, Bool, List, [], ◌∷◌, map, refl, inl, inr}
use Rattle.std.proofs.lemmas.Bool.{cases_Bool}
use Rattle.std.proofs.lemmas.List.{length-map}
use Rattle.std.specs.List.{position, position_or_len}

first_mapped : {X Y : Type 0} (p : Y → Bool) (f : X → Y) (xs : List X) → position_or_len p (map f xs) ≡ position_or_len (λ x. p (f x)) xs
first_mapped p f [] = refl
first_mapped p f (x ∷ xs) = elim (cases_Bool (p (f x))) [
  | inl h ↦ rw h refl
  | inr h ↦ rw (h, first_mapped p f xs) refl
]

pub place_mapped : {X Y : Type 0} (p : Y → Bool) (f : X → Y) (xs : List X) → position (λ x. p (f x)) xs ≡ position p (map f xs)
place_mapped p f xs = rw (first_mapped p f xs, length-map xs f) refl
