-- Sums over lists, and how often a number stands in one.
use Rattle.std.proofs.Common.{◌≡◌, ℕ, suc, ◌+◌, ◌<◌, ◌≤◌, ◌==◌, eqb, Bool, true, false, cond, inl, inr, List, [], ◌∷◌, ◌++◌, length, refl, sym, ap, ◌∙◌, arith}
use Rattle.std.specs.List.{filter, flat_map, list_all, sum_by}
use Rattle.std.specs.List.Sorted.{IsPermutation}
use Rattle.std.proofs.lemmas.Bool.{and_parts, cases_eq, eq-eqb, ne_eqb}
use Rattle.std.proofs.lemmas.List.Recursion.{is_sum_by}
use Rattle.std.proofs.lemmas.List.Sorted.{sum_by-IsPermutation}
use Rattle.exi_gram.specs.Laws.{places_from}

abbrev pub total : {X : Type 0} → (X → ℕ) → List X → ℕ
total f [] = 0
total f (x ∷ xs) = f x + total f xs

abbrev pub one : Bool → ℕ
one b = cond b 1 0

abbrev pub times : ℕ → List ℕ → ℕ
times x xs = total (λ y. one (x == y)) xs

pub total-sum_by : {X : Type 0} (f : X → ℕ) (xs : List X) → total f xs ≡ sum_by f xs
total-sum_by f xs = is_sum_by (total f) f refl (λ x xs. refl) xs

pub total-append : {X : Type 0} (f : X → ℕ) (xs ys : List X) → total f (xs ++ ys) ≡ total f xs + total f ys
total-append f [] ys = omega arith
total-append f (x ∷ xs) ys = let e = total-append f xs ys in omega (arith, e)

pub total-flat_map : {X Y : Type 0} (f : Y → ℕ) (g : X → List Y) (xs : List X) → total f (flat_map g xs) ≡ total (λ x. total f (g x)) xs
total-flat_map f g [] = refl
total-flat_map f g (x ∷ xs) = total-append f (g x) (flat_map g xs) ∙ ap (λ n. total f (g x) + n) (total-flat_map f g xs)

pub total-zero : {X : Type 0} (xs : List X) → total (λ x. 0) xs ≡ 0
total-zero [] = refl
total-zero (x ∷ xs) = let e = total-zero xs in omega (arith, e)

pub total-add : {X : Type 0} (f g : X → ℕ) (xs : List X) → total (λ x. f x + g x) xs ≡ total f xs + total g xs
total-add f g [] = refl
total-add f g (x ∷ xs) = let e = total-add f g xs in omega (arith, e)

pub total-swap : {X Y : Type 0} (f : X → Y → ℕ) (xs : List X) (ys : List Y) → total (λ x. total (f x) ys) xs ≡ total (λ y. total (λ x. f x y) xs) ys
total-swap f [] ys = sym (total-zero ys)
total-swap f (x ∷ xs) ys = ap (λ n. total (f x) ys + n) (total-swap f xs ys) ∙ sym (total-add (f x) (λ y. total (λ z. f z y) xs) ys)

pub total-same : {X : Type 0} (f g : X → ℕ) (xs : List X) → ((x : X) → f x ≡ g x) → total f xs ≡ total g xs
total-same f g [] e = refl
total-same f g (x ∷ xs) e = let h = e x in let t = total-same f g xs e in omega (arith, h, t)

-- where they are the same at all that pass
pub total-pass : {X : Type 0} (test : X → Bool) (f g : X → ℕ) (xs : List X) → ((x : X) → test x ≡ true → f x ≡ g x) → list_all test xs ≡ true → total f xs ≡ total g xs
total-pass test f g [] e all = refl
total-pass test f g (x ∷ xs) e all =
    let both = and_parts (test x) (list_all test xs) all in
    let h = e x both.0 in
    let t = total-pass test f g xs e both.1 in
    omega (arith, h, t)

pub total-filter : {X : Type 0} (p : X → Bool) (xs : List X) → length (filter p xs) ≡ total (λ x. one (p x)) xs
total-filter p [] = refl
total-filter p (x ∷ xs) = by (p x) (total-filter p xs)
  where
    by : (b : Bool) → length (filter p xs) ≡ total (λ x. one (p x)) xs → length (cond b (x ∷ filter p xs) (filter p xs)) ≡ one b + total (λ x. one (p x)) xs
    by true e = omega (arith, e)
    by false e = omega (arith, e)

pub total-permutation : {X : Type 0} (f : X → ℕ) (xs ys : List X) → IsPermutation xs ys → total f ys ≡ total f xs
total-permutation f xs ys moved = total-sum_by f ys ∙ sum_by-IsPermutation f xs ys moved ∙ sym (total-sum_by f xs)

-- ---- how often
pub same_sides : (x y : ℕ) → eqb x y ≡ eqb y x
same_sides x y = elim (cases_eq x y) [
  | inl e ↦ eq-eqb x y e ∙ sym (eq-eqb y x (sym e))
  | inr n ↦ ne_eqb x y n ∙ sym (ne_eqb y x (λ e. n (sym e)))
]

times_put : (b : Bool) (x n : ℕ) (l : List ℕ) → times x (cond b (n ∷ l) l) ≡ cond b (one (x == n)) 0 + times x l
times_put true x n l = refl
times_put false x n l = omega arith

-- among the places of a list that pass: once where it is one of them
pub times_before : {X : Type 0} (p : ℕ → Bool) (x n : ℕ) (xs : List X) → x < n → times x (filter p (places_from n xs)) ≡ 0
times_before p x n [] less = refl
times_before p x n (y ∷ ys) less =
    times_put (p n) x n (filter p (places_from (suc n) ys))
    ∙ ap (λ b. cond (p n) (one b) 0 + times x (filter p (places_from (suc n) ys))) (ne_eqb x n (λ e. omega (arith, less, e)))
    ∙ none (p n) (times x (filter p (places_from (suc n) ys))) (times_before p x (suc n) ys (omega (arith, less)))
  where
    none : (b : Bool) (m : ℕ) → m ≡ 0 → cond b 0 0 + m ≡ 0
    none true m e = omega (arith, e)
    none false m e = omega (arith, e)

pub times_behind : {X : Type 0} (p : ℕ → Bool) (x n : ℕ) (xs : List X) → n + length xs ≤ x → times x (filter p (places_from n xs)) ≡ 0
times_behind p x n [] le = refl
times_behind p x n (y ∷ ys) le =
    times_put (p n) x n (filter p (places_from (suc n) ys))
    ∙ ap (λ b. cond (p n) (one b) 0 + times x (filter p (places_from (suc n) ys))) (ne_eqb x n (λ e. omega (arith, le, e)))
    ∙ none (p n) (times x (filter p (places_from (suc n) ys))) (times_behind p x (suc n) ys (omega (arith, le)))
  where
    none : (b : Bool) (m : ℕ) → m ≡ 0 → cond b 0 0 + m ≡ 0
    none true m e = omega (arith, e)
    none false m e = omega (arith, e)

pub times_there : {X : Type 0} (p : ℕ → Bool) (x n : ℕ) (xs : List X) → n ≤ x → x < n + length xs → times x (filter p (places_from n xs)) ≡ one (p x)
times_there p x n [] le less = absurd (omega (arith, le, less))
times_there {X} p x n (y ∷ ys) le less = elim (cases_eq x n) [
  | inl e ↦
      times_put (p n) x n (filter p (places_from (suc n) ys))
      ∙ ap (λ b. cond (p n) (one b) 0 + times x (filter p (places_from (suc n) ys))) (eq-eqb x n e)
      ∙ ap (λ m. cond (p n) 1 0 + m) (times_before p x (suc n) ys (omega (arith, e)))
      ∙ plus (cond (p n) 1 0)
      ∙ ap (λ m. one (p m)) (sym e)
  | inr other ↦
      times_put (p n) x n (filter p (places_from (suc n) ys))
      ∙ ap (λ b. cond (p n) (one b) 0 + times x (filter p (places_from (suc n) ys))) (ne_eqb x n other)
      ∙ ap (λ m. cond (p n) 0 0 + m) (times_there p x (suc n) ys (omega (arith, le, other)) (omega (arith, less)))
      ∙ skip (p n) (one (p x))
]
  where
    plus : (m : ℕ) → m + 0 ≡ m
    plus m = omega arith

    skip : (b : Bool) (m : ℕ) → cond b 0 0 + m ≡ m
    skip true m = omega arith
    skip false m = omega arith

-- the places that are one of these are one
pub one_place : {X : Type 0} (x n : ℕ) (xs : List X) → n ≤ x → x < n + length xs → total (λ y. one (y == x)) (places_from n xs) ≡ 1
one_place x n xs le less =
    total-same (λ y. one (y == x)) (λ y. one (x == y)) (places_from n xs) (λ y. ap one (same_sides y x))
    ∙ ap (times x) (sym (all_kept (places_from n xs)))
    ∙ times_there (λ y. true) x n xs le less
  where
    all_kept : (ys : List ℕ) → filter (λ y. true) ys ≡ ys
    all_kept [] = refl
    all_kept (y ∷ ys) = ap (λ l. y ∷ l) (all_kept ys)
