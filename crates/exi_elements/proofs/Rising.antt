-- Lists of numbers that rise and have the same numbers as often are one list.
use Rattle.std.proofs.Common.{◌≡◌, ℕ, suc, ◌<◌, ◌≤◌, ◌==◌, Bool, true, false, cond, inl, inr, List, [], ◌∷◌, length, get_or, refl, sym, ap, arith}
use Rattle.std.specs.List.{filter}
use Rattle.std.specs.List.Sorted.{IsNonDecreasingBy}
use Rattle.std.proofs.lemmas.Bool.{cases_order, eq-eqb, ne_eqb}
use Rattle.exi_gram.specs.Laws.{places_from}
use Rattle.exi_elements.proofs.Totals.{one, times}

-- none is less than one in front of it
abbrev pub Least : ℕ → List ℕ → Type 0
Least x [] = Unit {0}
Least x (y ∷ ys) = (x ≤ y) × Least x ys

abbrev pub Rises : List ℕ → Type 0
Rises [] = Unit {0}
Rises (x ∷ xs) = Least x xs × Rises xs

least_from : (x : ℕ) (xs : List ℕ) → ((k : ℕ) → k < length xs → x ≤ get_or xs k 0) → Least x xs
least_from x [] h = tt
least_from x (y ∷ ys) h = (h 0 (omega arith), least_from x ys (λ k less. h (suc k) (omega (arith, less))))

pub rises_from : (xs : List ℕ) → IsNonDecreasingBy (λ x. x) xs → Rises xs
rises_from [] up = tt
rises_from (x ∷ xs) up = (
  least_from x xs (λ k less. up 0 (suc k) 0 (omega arith) (omega (arith, less))),
  rises_from xs (λ i j d le less. up (suc i) (suc j) d (omega (arith, le)) (omega (arith, less))),
)

least_weaker : (x y : ℕ) (xs : List ℕ) → x ≤ y → Least y xs → Least x xs
least_weaker x y [] le h = tt
least_weaker x y (z ∷ zs) le h = (omega (arith, le, h.0), least_weaker x y zs le h.1)

least_places : {X : Type 0} (p : ℕ → Bool) (x n : ℕ) (xs : List X) → x ≤ n → Least x (filter p (places_from n xs))
least_places p x n [] le = tt
least_places p x n (y ∷ ys) le = by (p n) (least_places p x (suc n) ys (omega (arith, le)))
  where
    by : (b : Bool) → Least x (filter p (places_from (suc n) ys)) → Least x (cond b (n ∷ filter p (places_from (suc n) ys)) (filter p (places_from (suc n) ys)))
    by true h = (le, h)
    by false h = h

pub rises_places : {X : Type 0} (p : ℕ → Bool) (n : ℕ) (xs : List X) → Rises (filter p (places_from n xs))
rises_places p n [] = tt
rises_places p n (y ∷ ys) = by (p n) (rises_places p (suc n) ys)
  where
    by : (b : Bool) → Rises (filter p (places_from (suc n) ys)) → Rises (cond b (n ∷ filter p (places_from (suc n) ys)) (filter p (places_from (suc n) ys)))
    by true h = (least_places p n (suc n) ys (omega arith), h)
    by false h = h

-- ---- what is less than all stands nowhere
times_less : (x y : ℕ) (ys : List ℕ) → x < y → Least y ys → times x ys ≡ 0
times_less x y [] less h = refl
times_less x y (z ∷ zs) less h =
    let here : one (x == z) ≡ 0 = ap one (ne_eqb x z (λ e. omega (arith, less, h.0, e))) in
    let rest = times_less x y zs less h.1 in
    omega (arith, here, rest)

times_first : (x : ℕ) (xs : List ℕ) → 0 < times x (x ∷ xs)
times_first x xs = let here : one (x == x) ≡ 1 = ap one (eq-eqb x x refl) in omega (arith, here)

apart : (x y : ℕ) (xs ys : List ℕ) → x < y → Least y ys → times x (x ∷ xs) ≡ times x (y ∷ ys) → ⊥
apart x y xs ys less h e =
    let here = times_first x xs in
    let none : times x (y ∷ ys) ≡ 0 = times_less x y (y ∷ ys) less (omega arith, h) in
    omega (arith, here, none, e)

pub one_rising : (xs ys : List ℕ) → Rises xs → Rises ys → ((x : ℕ) → times x xs ≡ times x ys) → xs ≡ ys
one_rising [] [] a b same = refl
one_rising [] (y ∷ ys) a b same = let here = times_first y ys in let e = same y in absurd (omega (arith, here, e))
one_rising (x ∷ xs) [] a b same = let here = times_first x xs in let e = same x in absurd (omega (arith, here, e))
one_rising (x ∷ xs) (y ∷ ys) a b same = elim (cases_order x y) [
  | inl e ↦
      let rest : (z : ℕ) → times z xs ≡ times z ys = λ z.
      let front : one (z == x) ≡ one (z == y) = ap (λ w. one (z == w)) e in
      let all = same z in
      omega (arith, front, all) in
      let last = one_rising xs ys a.1 b.1 rest in
      cc
  | inr differ ↦ elim differ [
    | inl less ↦ absurd (apart x y xs ys less b.0 (same x))
    | inr less ↦ absurd (apart y x ys xs less a.0 (sym (same y)))
  ]
]
