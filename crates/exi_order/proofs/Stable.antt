-- A list that is sorted, and in which what is alike stands as it stood, is the list in order: there is no other.
use Rattle.std.proofs.Common.{◌≡◌, suc, ◌+◌, Bool, true, false, cond, not, List, [], ◌∷◌, ◌++◌, get_or, reverse, All, refl, sym, ap, ◌∙◌, inl, inr, arith, append_assoc, subst}
use Rattle.std.specs.Cmp.{IsStrictWeakOrder}
use Rattle.std.specs.List.{filter}
use Rattle.std.specs.List.Sorted.{IsSortedBy, IsStableBy, ties}
use Rattle.std.proofs.lemmas.Bool.{cases_Bool, false≢true, true≢false, and_parts}
use Rattle.std.proofs.lemmas.List.{append-nil, reverse-append}
use Rattle.std.proofs.lemmas.List.Elements.{All-cons, All-head, All-nil, All-tail, All-append, All-filter, All-weaker, filter-append}
use Rattle.std.proofs.lemmas.List.Sorted.{All-permutation, IsPermutation-reverse, sorted_far}
use Rattle.exi_gram.specs.Orders.{all_placed, in_order, placed_among}
use Rattle.exi_order.proofs.InOrder.{placed_among-permutes}

not_true : (b : Bool) → not b ≡ true → b ≡ false
not_true true e = absurd (false≢true e)
not_true false e = refl

never_itself : (b : Bool) → (b ≡ true → b ≡ false) → b ≡ false
never_itself true h = h refl
never_itself false h = refl

module _ {X : Type 0} (before : X → X → Bool) (order : IsStrictWeakOrder before) where
  -- ---- what is alike
  alike_from : (x y : X) → before x y ≡ false → before y x ≡ false → ties before x y ≡ true
  alike_from x y e h = rw (e, h) refl

  alike_one : (x y : X) → ties before x y ≡ true → before x y ≡ false
  alike_one x y e = not_true (before x y) (and_parts (not (before x y)) (not (before y x)) e).0

  alike_other : (x y : X) → ties before x y ≡ true → before y x ≡ false
  alike_other x y e = not_true (before y x) (and_parts (not (before x y)) (not (before y x)) e).1

  itself : (x : X) → before x x ≡ false
  itself x = never_itself (before x x) (order.one_way x x)

  alike_itself : (x : X) → ties before x x ≡ true
  alike_itself x = alike_from x x (itself x) (itself x)

  -- ---- a list that rises: none comes before one that stands in front of it
  abbrev pub Rises : List X → Type 0
  Rises [] = Unit {0}
  Rises (x ∷ xs) = All (λ y. before y x ≡ false) xs × Rises xs

  rises_sorted : (xs : List X) → IsSortedBy before xs → Rises xs
  rises_sorted [] up = tt
  rises_sorted (x ∷ xs) up = (
    λ k d less.
        let far : before (get_or (x ∷ xs) (suc k) d) (get_or (x ∷ xs) 0 d) ≡ false = sorted_far before order (x ∷ xs) up 0 (suc k) d (omega arith) (omega (arith, less)) in far,
    rises_sorted xs (λ k d low less.
        let e : suc k + 1 ≡ suc (k + 1) = omega arith in
        subst (λ n. before (get_or (x ∷ xs) n d) (get_or (x ∷ xs) (suc k) d) ≡ false) e (up (suc k) d (omega arith) (omega (arith, less)))),
  )

  -- what is alike with one that stands behind doesn't come before the first
  not_before : (first : X) (xs : List X) → All (λ y. before y first ≡ false) xs → (x found : X) (more : List X) → filter (ties before x) xs ≡ found ∷ more → before x first ≡ false
  not_before first [] none x found more e = absurd cc
  not_before first (y ∷ ys) none x found more e = elim (cases_Bool (ties before x y)) [
    | inl alike ↦ order.chain x y first (alike_one x y alike) (All-head (λ y. before y first ≡ false) y ys none)
    | inr other ↦ not_before first ys (All-tail (λ y. before y first ≡ false) y ys none) x found more (rw other at e)
  ]

  first_found : (x : X) (xs : List X) → filter (ties before x) (x ∷ xs) ≡ x ∷ filter (ties before x) xs
  first_found x xs = rw (alike_itself x) refl

  not_before_first : (y z : X) (ys zs : List X) → Rises (y ∷ ys) → filter (ties before z) (y ∷ ys) ≡ filter (ties before z) (z ∷ zs) → before z y ≡ false
  not_before_first y z ys zs rises e = not_before y (y ∷ ys) (All-cons (λ w. before w y ≡ false) y ys (itself y) rises.0) z z (filter (ties before z) zs) (e ∙ first_found z zs)

  -- two lists that rise and have what is alike alike are one
  only_one : (ys zs : List X) → Rises ys → Rises zs → ((x : X) → filter (ties before x) ys ≡ filter (ties before x) zs) → ys ≡ zs
  only_one [] [] a b same = refl
  only_one [] (z ∷ zs) a b same = let e = same z ∙ first_found z zs in absurd cc
  only_one (y ∷ ys) [] a b same = let e = sym (same y) ∙ first_found y ys in absurd cc
  only_one (y ∷ ys) (z ∷ zs) a b same =
      let alike : ties before y z ≡ true = alike_from y z (not_before_first z y zs ys b (sym (same y))) (not_before_first y z ys zs a (same z)) in
      let e : y ∷ filter (ties before y) ys ≡ z ∷ filter (ties before y) zs = sym (first_found y ys) ∙ same y ∙ rw alike refl in
      let first : y ≡ z = cc in
      let rest : (x : X) → filter (ties before x) ys ≡ filter (ties before x) zs = λ x. behind (ties before x y) (ties before x z) y z (filter (ties before x) ys) (filter (ties before x) zs) (ap (ties before x) first) (same x) in
      let last : ys ≡ zs = only_one ys zs a.1 b.1 rest in
      cc
    where
      behind : (p q : Bool) (y z : X) (us vs : List X) → p ≡ q → cond p (y ∷ us) us ≡ cond q (z ∷ vs) vs → us ≡ vs
      behind true true y z us vs e h = cc
      behind true false y z us vs e h = absurd (true≢false e)
      behind false true y z us vs e h = absurd (false≢true e)
      behind false false y z us vs e h = h

  -- ---- what is placed keeps what is alike
  not_both : (x y v : X) → before x y ≡ true → ties before v x ≡ true → ties before v y ≡ false
  not_both x y v less e = elim (cases_Bool (ties before v y)) [
    | inl alike ↦ absurd (true≢false (sym less ∙ order.chain x v y (alike_other v x e) (alike_one v y alike)))
    | inr other ↦ other
  ]

  placed-kept : (v x : X) (kept : List X) → filter (ties before v) (placed_among before x kept) ≡ filter (ties before v) (x ∷ kept)
  placed-kept v x [] = refl
  placed-kept v x (y ∷ ys) = elim (cases_Bool (before x y)) [
    | inl less ↦ rw less (past (ties before v x) (ties before v y) (not_both x y v less) (filter (ties before v) (placed_among before x ys)) (filter (ties before v) ys) (placed-kept v x ys))
    | inr level ↦ rw level refl
  ]
    where
      past : (p q : Bool) → (p ≡ true → q ≡ false) → (us vs : List X) → us ≡ cond p (x ∷ vs) vs → cond q (y ∷ us) us ≡ cond p (x ∷ cond q (y ∷ vs) vs) (cond q (y ∷ vs) vs)
      past true true h us vs e = absurd (true≢false (h refl))
      past true false h us vs e = e
      past false true h us vs e = ap (λ l. y ∷ l) e
      past false false h us vs e = e

  filter-one : (p : X → Bool) (x : X) → reverse (filter p (x ∷ [])) ≡ filter p (x ∷ [])
  filter-one p x = by (p x)
    where
      by : (b : Bool) → reverse (cond b (x ∷ []) []) ≡ cond b (x ∷ []) []
      by true = refl
      by false = refl

  filter-reverse : (p : X → Bool) (xs : List X) → filter p (reverse xs) ≡ reverse (filter p xs)
  filter-reverse p [] = refl
  filter-reverse p (x ∷ xs) =
      ap (filter p) (reverse-append (x ∷ []) xs) ∙ filter-append p (reverse xs) (x ∷ [])
      ∙ ap (λ l. l ++ filter p (x ∷ [])) (filter-reverse p xs)
      ∙ ap (λ l. reverse (filter p xs) ++ l) (sym (filter-one p x))
      ∙ sym (reverse-append (filter p (x ∷ [])) (filter p xs))
      ∙ ap reverse (sym (filter-append p (x ∷ []) xs))

  all-kept : (v : X) (kept xs : List X) → filter (ties before v) (reverse (all_placed before kept xs)) ≡ filter (ties before v) (reverse kept) ++ filter (ties before v) xs
  all-kept v kept [] = sym (append-nil (filter (ties before v) (reverse kept)))
  all-kept v kept (x ∷ xs) =
      let p = ties before v in
      all-kept v (placed_among before x kept) xs
      ∙ ap (λ l. l ++ filter p xs) (filter-reverse p (placed_among before x kept) ∙ ap reverse (placed-kept v x kept) ∙ sym (filter-reverse p (x ∷ kept)) ∙ ap (filter p) (reverse-append (x ∷ []) kept) ∙ filter-append p (reverse kept) (x ∷ []))
      ∙ append_assoc (filter p (reverse kept)) (filter p (x ∷ [])) (filter p xs)
      ∙ ap (λ l. filter p (reverse kept) ++ l) (sym (filter-append p (x ∷ []) xs))

  -- ---- what is placed rises, seen from its last
  abbrev pub Falls : List X → Type 0
  Falls [] = Unit {0}
  Falls (x ∷ xs) = All (λ y. before x y ≡ false) xs × Falls xs

  placed-falls : (x : X) (kept : List X) → Falls kept → Falls (placed_among before x kept)
  placed-falls x [] falls = (All-nil (λ y. before x y ≡ false), tt)
  placed-falls x (y ∷ ys) falls = elim (cases_Bool (before x y)) [
    | inl less ↦ rw less (
      All-permutation (λ w. before y w ≡ false) (x ∷ ys) (placed_among before x ys) (placed_among-permutes before x ys) (All-cons (λ w. before y w ≡ false) x ys (order.one_way x y less) falls.0),
      placed-falls x ys falls.1,
    )
    | inr level ↦ rw level (
      All-cons (λ w. before x w ≡ false) y ys level (All-weaker (λ w. before y w ≡ false) (λ w. before x w ≡ false) (λ w h. order.chain x y w level h) ys falls.0),
      falls,
    )
  ]

  all-falls : (kept xs : List X) → Falls kept → Falls (all_placed before kept xs)
  all-falls kept [] falls = falls
  all-falls kept (x ∷ xs) falls = all-falls (placed_among before x kept) xs (placed-falls x kept falls)

  rises-push : (xs : List X) (y : X) → Rises xs → All (λ x. before y x ≡ false) xs → Rises (xs ++ y ∷ [])
  rises-push [] y rises none = (All-nil (λ x. before x y ≡ false), tt)
  rises-push (x ∷ xs) y rises none = (
    All-append (λ w. before w x ≡ false) xs (y ∷ []) rises.0 (All-cons (λ w. before w x ≡ false) y [] (All-head (λ w. before y w ≡ false) x xs none) (All-nil (λ w. before w x ≡ false))),
    rises-push xs y rises.1 (All-tail (λ w. before y w ≡ false) x xs none),
  )

  rises-reverse : (xs : List X) → Falls xs → Rises (reverse xs)
  rises-reverse [] falls = tt
  rises-reverse (x ∷ xs) falls =
      subst Rises (sym (reverse-append (x ∷ []) xs))
      (rises-push (reverse xs) x (rises-reverse xs falls.1) (All-permutation (λ w. before x w ≡ false) xs (reverse xs) (IsPermutation-reverse xs) falls.0))

  -- ---- the list in order
  pub in_order-rises : (xs : List X) → Rises (in_order before xs)
  in_order-rises xs = rises-reverse (all_placed before [] xs) (all-falls [] xs tt)

  pub in_order-stable : (xs : List X) → IsStableBy before xs (in_order before xs)
  in_order-stable xs v = all-kept v [] xs

  pub is_in_order : (xs ys : List X) → IsSortedBy before ys → IsStableBy before xs ys → ys ≡ in_order before xs
  is_in_order xs ys up stable = only_one ys (in_order before xs) (rises_sorted ys up) (in_order-rises xs) (λ x. stable x ∙ sym (in_order-stable xs x))

  -- a list that rises is in order
  pub in_order-risen : (xs : List X) → Rises xs → in_order before xs ≡ xs
  in_order-risen xs rises = only_one (in_order before xs) xs (in_order-rises xs) rises (λ x. in_order-stable xs x)

  -- what is left of a list in order is what is left in order
  filter-both : (p q : X → Bool) (xs : List X) → filter p (filter q xs) ≡ filter q (filter p xs)
  filter-both p q [] = refl
  filter-both p q (x ∷ xs) = by (p x) (q x) refl refl (filter-both p q xs)
    where
      by : (a b : Bool) → p x ≡ a → q x ≡ b → filter p (filter q xs) ≡ filter q (filter p xs) → filter p (cond b (x ∷ filter q xs) (filter q xs)) ≡ filter q (cond a (x ∷ filter p xs) (filter p xs))
      by true true e h same = rw (e, h) (ap (λ l. x ∷ l) same)
      by true false e h same = rw h same
      by false true e h same = rw e same
      by false false e h same = same

  rises-filter : (p : X → Bool) (xs : List X) → Rises xs → Rises (filter p xs)
  rises-filter p [] rises = tt
  rises-filter p (x ∷ xs) rises = by (p x) (All-filter p (λ y. before y x ≡ false) xs rises.0) (rises-filter p xs rises.1)
    where
      by : (b : Bool) → All (λ y. before y x ≡ false) (filter p xs) → Rises (filter p xs) → Rises (cond b (x ∷ filter p xs) (filter p xs))
      by true none rest = (none, rest)
      by false none rest = rest

  pub in_order-filter : (p : X → Bool) (xs : List X) → filter p (in_order before xs) ≡ in_order before (filter p xs)
  in_order-filter p xs =
      only_one (filter p (in_order before xs)) (in_order before (filter p xs)) (rises-filter p (in_order before xs) (in_order-rises xs)) (in_order-rises (filter p xs))
      (λ x. filter-both (ties before x) p (in_order before xs) ∙ ap (filter p) (in_order-stable xs x) ∙ filter-both p (ties before x) xs ∙ sym (in_order-stable (filter p xs) x))
