-- What holds of each element of a list.
use Rattle.std.proofs.Common.{◌≡◌, ◌⊎◌, inl, inr, ℕ, zero, suc, Bool, true, false, if◌then◌else◌, Option, Some, None, List, [], ◌∷◌, ◌++◌, All, map, get_or, slice_get, flat_map, refl, subst}
use Rattle.std.proofs.lemmas.List.Elements.{All-append, All-cons, All-head, All-nil, All-tail}

pub cases_Option : {X : Type 0} (o : Option X) → (o ≡ None) ⊎ ((x : X) × (o ≡ Some x))
cases_Option None = inl refl
cases_Option (Some x) = inr (x, refl)

module _ {X : Type 0} (P : X → Type 0) where
  pub one : (x : X) → P x → All P (x ∷ [])
  one x p = All-cons P x [] p (All-nil P)

  pub two : (x y : X) → P x → P y → All P (x ∷ y ∷ [])
  two x y p q = All-cons P x (y ∷ []) p (one y q)

  pub three : (x y z : X) → P x → P y → P z → All P (x ∷ y ∷ z ∷ [])
  three x y z p q r = All-cons P x (y ∷ z ∷ []) p (two y z q r)

  pub by_test : (b : Bool) (xs ys : List X) → All P xs → All P ys → All P (if b then xs else ys)
  by_test true xs ys h k = h
  by_test false xs ys h k = k

  pub at_place : (xs : List X) (place : ℕ) (x : X) → All P xs → slice_get xs place ≡ Some x → P x
  at_place [] place x h e = absurd cc
  at_place (y ∷ xs) zero x h e = let same : y ≡ x = cc in subst P same (All-head P y xs h)
  at_place (y ∷ xs) (suc place) x h e = at_place xs place x (All-tail P y xs h) e

  pub or_default : (xs : List X) (place : ℕ) (d : X) → All P xs → P d → P (get_or xs place d)
  or_default [] place d h p = p
  or_default (x ∷ xs) zero d h p = All-head P x xs h
  or_default (x ∷ xs) (suc place) d h p = or_default xs place d (All-tail P x xs h) p

  pub in_flat : {Y : Type 0} (f : Y → List X) (ys : List Y) → ((y : Y) → All P (f y)) → All P (flat_map f ys)
  in_flat f [] h = All-nil P
  in_flat f (y ∷ ys) h = All-append P (f y) (flat_map f ys) (h y) (in_flat f ys h)

  pub in_all : {Y : Type 0} (Q : Y → Type 0) (f : Y → X) (ys : List Y) → ((y : Y) → Q y → P (f y)) → All Q ys → All P (map f ys)
  in_all Q f [] h q = All-nil P
  in_all Q f (y ∷ ys) h q = All-cons P (f y) (map f ys) (h y (All-head Q y ys q)) (in_all Q f ys h (All-tail Q y ys q))

  -- ---- of parts
  pub before : (xs ys : List X) → All P (xs ++ ys) → All P xs
  before [] ys h = All-nil P
  before (x ∷ xs) ys h = All-cons P x xs (All-head P x (xs ++ ys) h) (before xs ys (All-tail P x (xs ++ ys) h))

  pub past : (xs ys : List X) → All P (xs ++ ys) → All P ys
  past [] ys h = h
  past (x ∷ xs) ys h = past xs ys (All-tail P x (xs ++ ys) h)

  pub in_flat_back : {Y : Type 0} (f : Y → List X) (ys : List Y) (place : ℕ) (y : Y) → All P (flat_map f ys) → slice_get ys place ≡ Some y → All P (f y)
  in_flat_back f [] place y h e = absurd cc
  in_flat_back f (z ∷ ys) zero y h e = let same : z ≡ y = cc in subst (λ a. All P (f a)) same (before (f z) (flat_map f ys) h)
  in_flat_back f (z ∷ ys) (suc place) y h e = in_flat_back f ys place y (past (f z) (flat_map f ys) h) e
