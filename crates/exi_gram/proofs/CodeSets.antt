-- Codes of which none is the front of another, and that leave no gaps, are a tree.
use Rattle.std.proofs.Common.{◌≡◌, ◌≢◌, ℕ, zero, suc, ◌<◌, ◌≤◌, true, false, eqb, List, [], ◌∷◌, length, Option, Some, None, ◌⊎◌, inl, inr, refl, sym, ap, ◌∙◌, subst, All, eq-eqb, eqb-true, arith}
use Rattle.std.proofs.lemmas.Bool.{cases_Bool}
use Rattle.exi_gram.specs.declared.code.Code.{Code}
use Rattle.exi_gram.specs.declared.code.Code.TheVariants as code
use Rattle.exi_gram.specs.Codes.{Coded, going_on, values_of}
use Rattle.exi_gram.specs.CodeTrees.{AllApart, IsCodeSet, behind, counted, ended, go_apart, going_along, parts_in, told_by}
use Rattle.exi_gram.specs.Cells.{Branches, IsTree, all_parts}
use Rattle.exi_gram.specs.Tables.{parts_of}
use Rattle.exi_gram.proofs.CodeLists.{some_is}

pub all_head : {X : Type 0} (P : X → Type 0) (x : X) (xs : List X) → All P (x ∷ xs) → P x
all_head P x xs h = h 0 x (omega arith)

pub all_tail : {X : Type 0} (P : X → Type 0) (x : X) (xs : List X) → All P (x ∷ xs) → All P xs
all_tail P x xs h i d less = h (suc i) d (omega (arith, less))

pub all_cons : {X : Type 0} (P : X → Type 0) (x : X) (xs : List X) → P x → All P xs → All P (x ∷ xs)
all_cons P x xs one others zero d less = one
all_cons P x xs one others (suc i) d less = others i d (omega (arith, less))

-- ---- the codes that go on with a part
pub parts_behind : {X : Type 0} (part : ℕ) (cs : List (Coded X)) → parts_in (behind (part ∷ []) cs) ≡ going_on part (parts_in cs)
parts_behind part [] = refl
parts_behind {X} part (c ∷ cs) = by c.parts (parts_behind part cs)
  where
    by : (parts : List ℕ) → parts_in (behind (part ∷ []) cs) ≡ going_on part (parts_in cs) → parts_in (behind (part ∷ []) (record { parts = parts; item = c.item } ∷ cs)) ≡ going_on part (parts ∷ parts_in cs)
    by [] rest = rest
    by (x ∷ xs) rest = elim (cases_Bool (eqb part x)) [
      | inl yes_is ↦ rw yes_is (ap (λ (codes : List (List ℕ)). xs ∷ codes) rest)
      | inr no_is ↦ rw no_is rest
    ]

pub parts_counted : (place : ℕ) (codes : List (List ℕ)) → parts_in (counted place codes) ≡ codes
parts_counted place [] = refl
parts_counted place (code ∷ codes) = ap (λ (cs : List (List ℕ)). code ∷ cs) (parts_counted (suc place) codes)

apart_from : (part x : ℕ) (xs : List ℕ) (codes : List (List ℕ)) → part ≡ x → All (λ d. go_apart (x ∷ xs) d ≡ true) codes → All (λ d. go_apart xs d ≡ true) (going_on part codes)
apart_from part x xs [] is h = λ i d less. absurd (omega (arith, less))
apart_from part x xs ([] ∷ codes) is h = apart_from part x xs codes is (all_tail (λ d. go_apart (x ∷ xs) d ≡ true) [] codes h)
apart_from part x xs ((y ∷ ys) ∷ codes) is h =
    let rest = apart_from part x xs codes is (all_tail (λ d. go_apart (x ∷ xs) d ≡ true) (y ∷ ys) codes h) in
    elim (cases_Bool (eqb part y)) [
      | inl yes_is ↦
          let same : eqb x y ≡ true = eq-eqb x y (sym is ∙ eqb-true part y yes_is) in
          let one : go_apart xs ys ≡ true = rw same at (all_head (λ d. go_apart (x ∷ xs) d ≡ true) (y ∷ ys) codes h) in
          rw yes_is (all_cons (λ d. go_apart xs d ≡ true) ys (going_on part codes) one rest)
      | inr no_is ↦ rw no_is rest
    ]

apart_on : (part : ℕ) (codes : List (List ℕ)) → AllApart codes → AllApart (going_on part codes)
apart_on part [] h = h
apart_on part ([] ∷ codes) h = apart_on part codes h.1
apart_on part ((x ∷ xs) ∷ codes) h = elim (cases_Bool (eqb part x)) [
  | inl yes_is ↦ rw yes_is (apart_from part x xs codes (eqb-true part x yes_is) h.0, apart_on part codes h.1)
  | inr no_is ↦ rw no_is (apart_on part codes h.1)
]

shorter_on : (part more : ℕ) (codes : List (List ℕ)) → All (λ c. length c ≤ suc more) codes → All (λ c. length c ≤ more) (going_on part codes)
shorter_on part more [] h = λ i d less. absurd (omega (arith, less))
shorter_on part more ([] ∷ codes) h = shorter_on part more codes (all_tail (λ c. length c ≤ suc more) [] codes h)
shorter_on part more ((x ∷ xs) ∷ codes) h =
    let rest = shorter_on part more codes (all_tail (λ c. length c ≤ suc more) (x ∷ xs) codes h) in
    let one : length xs ≤ more = omega (arith, all_head (λ c. length c ≤ suc more) (x ∷ xs) codes h) in
    elim (cases_Bool (eqb part x)) [
      | inl yes_is ↦ rw yes_is (all_cons (λ c. length c ≤ more) xs (going_on part codes) one rest)
      | inr no_is ↦ rw no_is rest
    ]

-- ---- a code that has ended stands alone
not_apart : (c : List ℕ) (cs : List (Coded ℕ)) (x : ℕ) → ended cs ≡ Some x → All (λ d. go_apart c d ≡ true) (parts_in cs) → ⊥
not_apart c [] x e h = absurd cc
not_apart c (d ∷ ds) x e h = by d.parts (ended ds) refl e (all_head (λ d. go_apart c d ≡ true) d.parts (parts_in ds) h) (λ y f. not_apart c ds y f (all_tail (λ d. go_apart c d ≡ true) d.parts (parts_in ds) h))
  where
    never : (c : List ℕ) → go_apart c [] ≡ true → ⊥
    never [] e = absurd cc
    never (y ∷ ys) e = absurd cc

    by : (parts : List ℕ) (o : Option ℕ) → ended ds ≡ o → told_by parts d.item o ≡ Some x → go_apart c parts ≡ true → ((y : ℕ) → ended ds ≡ Some y → ⊥) → ⊥
    by parts (Some y) f g a rest = rest y f
    by [] None f g a rest = never c a
    by (y ∷ ys) None f g a rest = absurd cc

nothing_apart : (cs : List (Coded ℕ)) → All (λ d. go_apart [] d ≡ true) (parts_in cs) → cs ≡ []
nothing_apart [] h = refl
nothing_apart (c ∷ cs) h = let wrong : false ≡ true = all_head (λ d. go_apart [] d ≡ true) c.parts (parts_in cs) h in absurd cc

alone : (cs : List (Coded ℕ)) (x : ℕ) → AllApart (parts_in cs) → ended cs ≡ Some x → cs ≡ record { parts = []; item = x } ∷ []
alone [] x h e = absurd cc
alone (c ∷ cs) x h e = by c.parts (ended cs) refl e h.0
  where
    by : (parts : List ℕ) (o : Option ℕ) → ended cs ≡ o → told_by parts c.item o ≡ Some x → All (λ d. go_apart parts d ≡ true) (parts_in cs) → record { parts = parts; item = c.item } ∷ cs ≡ record { parts = []; item = x } ∷ []
    by parts (Some y) f g a = absurd (not_apart parts cs y f a)
    by [] None f g a = ap (λ (rest : List (Coded ℕ)). record { parts = []; item = c.item } ∷ rest) (nothing_apart cs a) ∙ ap (λ (k : ℕ). record { parts = []; item = k } ∷ []) (some_is c.item x g)
    by (y ∷ ys) None f g a = absurd cc

-- ---- the tree
abbrev pub NoGaps : List (List ℕ) → Type 0
NoGaps codes = (front : List ℕ) (part : ℕ) → part < values_of (going_along front codes) → going_on part (going_along front codes) ≢ []

some_ended : (cs : List (Coded ℕ)) → cs ≢ [] → All (λ c. length c ≤ 0) (parts_in cs) → ended cs ≢ None
some_ended [] ne h e = ne refl
some_ended (c ∷ cs) ne h e = by c.parts (ended cs) (all_head (λ c. length c ≤ 0) c.parts (parts_in cs) h) e
  where
    by : (parts : List ℕ) (o : Option ℕ) → length parts ≤ 0 → told_by parts c.item o ≡ None → ⊥
    by parts (Some y) le f = absurd cc
    by [] None le f = absurd cc
    by (y ∷ ys) None le f = absurd (omega (arith, le))

option_cases : (o : Option ℕ) → (o ≡ None) ⊎ ((x : ℕ) × (o ≡ Some x))
option_cases None = inl refl
option_cases (Some x) = inr (x, refl)

pub set_tree : (more : ℕ) (cs : List (Coded ℕ)) → cs ≢ [] → AllApart (parts_in cs) → NoGaps (parts_in cs) → All (λ c. length c ≤ more) (parts_in cs) → IsTree more cs
set_tree zero cs ne a g h = elim (option_cases (ended cs)) [
  | inl none ↦ absurd (some_ended cs ne h none)
  | inr found ↦ (found.0, alone cs found.0 a found.1)
]
set_tree (suc more) cs ne a g h = elim (option_cases (ended cs)) [
  | inl none ↦ inr (
    none,
    λ part less.
        let e : parts_in (behind (part ∷ []) cs) ≡ going_on part (parts_in cs) = parts_behind part cs in
        set_tree more (behind (part ∷ []) cs)
        (λ is. g [] part less (sym e ∙ ap parts_in is))
        (subst AllApart (sym e) (apart_on part (parts_in cs) a))
        (subst NoGaps (sym e) (λ front other within. g (part ∷ front) other within))
        (subst (All (λ c. length c ≤ more)) (sym e) (shorter_on part more (parts_in cs) h)),
  )
  | inr found ↦ inl (found.0, alone cs found.0 a found.1)
]

none_ended : (cs : List (Coded ℕ)) → All (λ c. 1 ≤ length c) (parts_in cs) → ended cs ≡ None
none_ended [] h = refl
none_ended (c ∷ cs) h = by c.parts (ended cs) (all_head (λ c. 1 ≤ length c) c.parts (parts_in cs) h) (none_ended cs (all_tail (λ c. 1 ≤ length c) c.parts (parts_in cs) h))
  where
    by : (parts : List ℕ) (o : Option ℕ) → 1 ≤ length parts → o ≡ None → told_by parts c.item o ≡ None
    by [] o le e = absurd (omega (arith, le))
    by (x ∷ xs) o le e = rw e refl

code_some : (c : Code) → 1 ≤ length (parts_of c)
code_some (code.One first) = omega arith
code_some (code.Two first second) = omega arith
code_some (code.Three first second third) = omega arith

code_few : (c : Code) → length (parts_of c) ≤ 3
code_few (code.One first) = omega arith
code_few (code.Two first second) = omega arith
code_few (code.Three first second third) = omega arith

code_parts : (codes : List Code) → All (λ c. 1 ≤ length c) (all_parts codes)
code_parts [] = λ i d less. absurd (omega (arith, less))
code_parts (c ∷ cs) = all_cons (λ c. 1 ≤ length c) (parts_of c) (all_parts cs) (code_some c) (code_parts cs)

codes_few : (codes : List Code) → All (λ c. length c ≤ 3) (all_parts codes)
codes_few [] = λ i d less. absurd (omega (arith, less))
codes_few (c ∷ cs) = all_cons (λ c. length c ≤ 3) (parts_of c) (all_parts cs) (code_few c) (codes_few cs)

pub behind_none : (cs : List (Coded ℕ)) → behind [] cs ≡ cs
behind_none [] = refl
behind_none (c ∷ cs) = ap (λ (ds : List (Coded ℕ)). c ∷ ds) (behind_none cs)

-- the codes of a table are a tree of three parts
pub set_branches : (codes : List Code) → IsCodeSet (all_parts codes) → Branches 3 (counted 0 (all_parts codes))
set_branches [] set = (refl, λ part less. absurd (omega (arith, less)))
set_branches (c ∷ cs) set =
    let codes = all_parts (c ∷ cs) in
    let all = counted 0 codes in
    let e : codes ≡ parts_in all = sym (parts_counted 0 codes) in
    let none : ended all ≡ None = none_ended all (subst (All (λ c. 1 ≤ length c)) e (code_parts (c ∷ cs))) in
    by all none (set_tree 3 all (λ is. absurd cc) (subst AllApart e set.apart) (subst NoGaps e set.no_gaps) (subst (All (λ c. length c ≤ 3)) e (codes_few (c ∷ cs))))
  where
    by : (all : List (Coded ℕ)) → ended all ≡ None → IsTree 3 all → Branches 3 all
    by all none (inl t) = let wrong : None ≡ Some t.0 = sym none ∙ ap ended t.1 in absurd cc
    by all none (inr t) = t
