-- The codes of a state are distinct, none is the front of another, and they leave no gaps.
use Rattle.std.proofs.Common.{◌≡◌, ◌≢◌, ℕ, zero, suc, ◌+◌, ◌<◌, ◌≤◌, true, false, eqb, List, [], ◌∷◌, length, slice_get, Option, Some, None, ◌⊎◌, inl, inr, refl, sym, ap, ◌∙◌, subst, All, eq-eqb, eqb-true, ne_eqb, arith}
use Rattle.std.proofs.lemmas.Bool.{cases_Bool}
use Rattle.exi_gram.specs.Codes.{HasMembers, IsClosedUp, Productions, Second, coded, coded_from, coded_seconds, first_values, going_on, group, longer, single, values_of}
use Rattle.exi_gram.specs.CodeTrees.{AllApart, IsCodeSet, behind, go_apart, going_along, parts_in}
use Rattle.exi_gram.specs.Laws.{codes, is_told}
use Rattle.exi_gram.proofs.Chosen.{from_here, left_by, seconds_here, state_first, state_longer}
use Rattle.exi_gram.proofs.CodeLaws.{get_none, second_count, third_count}
use Rattle.exi_gram.proofs.CodeLists.{first_count, some_is}
use Rattle.exi_gram.proofs.CodeSets.{NoGaps, all_cons, all_head, all_tail, parts_behind}
use Rattle.exi_gram.proofs.PartLaws.{not_codes, not_from, not_seconds, within_get}

-- a tree of codes in which each node has codes
abbrev FullTree : ℕ → List (List ℕ) → Type 0
FullTree zero cs = cs ≡ [] ∷ []
FullTree (suc n) cs = (cs ≡ [] ∷ []) ⊎ ((cs ≢ []) × (is_told cs ≡ false) × ((part : ℕ) → part < values_of cs → FullTree n (going_on part cs)))

nat_order : (a b : ℕ) → (a < b) ⊎ (b ≤ a)
nat_order zero zero = inr (omega arith)
nat_order zero (suc b) = inl (omega arith)
nat_order (suc a) zero = inr (omega arith)
nat_order (suc a) (suc b) = elim (nat_order a b) [ inl less ↦ inl (omega (arith, less)) | inr le ↦ inr (omega (arith, le)) ]

-- ---- no gaps
beyond : (part : ℕ) (cs : List (List ℕ)) → values_of cs ≤ part → going_on part cs ≡ []
beyond part [] le = refl
beyond part ([] ∷ cs) le = beyond part cs (omega (arith, le))
beyond part ((x ∷ xs) ∷ cs) le = rw (ne_eqb part x (λ e. omega (arith, e, le))) (beyond part cs (omega (arith, le)))

along_none : (front : List ℕ) → going_along front [] ≡ []
along_none [] = refl
along_none (part ∷ front) = along_none front

no_values : (front : List ℕ) (cs : List (List ℕ)) (part : ℕ) → cs ≡ [] → part < values_of (going_along front cs) → ⊥
no_values front cs part e less = let none : values_of (going_along front cs) ≡ 0 = ap (λ (ds : List (List ℕ)). values_of (going_along front ds)) e ∙ ap values_of (along_none front) in omega (arith, none, less)

some_codes : (n : ℕ) (cs : List (List ℕ)) → FullTree n cs → cs ≢ []
some_codes zero cs t e = let wrong : [] ∷ [] ≡ [] = sym t ∙ e in absurd cc
some_codes (suc n) cs (inl t) e = let wrong : [] ∷ [] ≡ [] = sym t ∙ e in absurd cc
some_codes (suc n) cs (inr t) e = t.0 e

leaf_gaps : (cs : List (List ℕ)) → cs ≡ [] ∷ [] → NoGaps cs
leaf_gaps cs e [] part less = let none : values_of cs ≡ 0 = ap values_of e in absurd (omega (arith, none, less))
leaf_gaps cs e (first ∷ front) part less = absurd (no_values front (going_on first cs) part (ap (going_on first) e) less)

tree_gaps : (n : ℕ) (cs : List (List ℕ)) → FullTree n cs → NoGaps cs
tree_gaps zero cs t front part less = leaf_gaps cs t front part less
tree_gaps (suc n) cs (inl t) front part less = leaf_gaps cs t front part less
tree_gaps (suc n) cs (inr t) [] part less = some_codes n (going_on part cs) (t.2 part less)
tree_gaps (suc n) cs (inr t) (first ∷ front) part less = elim (nat_order first (values_of cs)) [
  | inl within ↦ tree_gaps n (going_on first cs) (t.2 first within) front part less
  | inr past ↦ absurd (no_values front (going_on first cs) part (beyond first cs past) less)
]

-- ---- apart
lifted : (x : ℕ) (xs : List ℕ) (cs : List (List ℕ)) → is_told cs ≡ false → All (λ d. go_apart xs d ≡ true) (going_on x cs) → All (λ d. go_apart (x ∷ xs) d ≡ true) cs
lifted x xs [] none h = λ i d less. absurd (omega (arith, less))
lifted x xs ([] ∷ cs) none h = absurd cc
lifted x xs ((y ∷ ys) ∷ cs) none h = elim (cases_Bool (eqb x y)) [
  | inl yes_is ↦
      let here : All (λ d. go_apart xs d ≡ true) (ys ∷ going_on x cs) = rw yes_is at h in
      let one : go_apart (x ∷ xs) (y ∷ ys) ≡ true = rw yes_is (all_head (λ d. go_apart xs d ≡ true) ys (going_on x cs) here) in
      all_cons (λ d. go_apart (x ∷ xs) d ≡ true) (y ∷ ys) cs one (lifted x xs cs none (all_tail (λ d. go_apart xs d ≡ true) ys (going_on x cs) here))
  | inr no_is ↦
      let here : All (λ d. go_apart xs d ≡ true) (going_on x cs) = rw no_is at h in
      let one : go_apart (x ∷ xs) (y ∷ ys) ≡ true = rw no_is refl in
      all_cons (λ d. go_apart (x ∷ xs) d ≡ true) (y ∷ ys) cs one (lifted x xs cs none here)
]

apart_back : (cs : List (List ℕ)) → is_told cs ≡ false → ((part : ℕ) → AllApart (going_on part cs)) → AllApart cs
apart_back [] none h = tt
apart_back ([] ∷ cs) none h = absurd cc
apart_back ((x ∷ xs) ∷ cs) none h =
    let here : AllApart (xs ∷ going_on x cs) = rw (eq-eqb x x refl) at (h x) in (
      lifted x xs cs none here.0,
      apart_back cs none (λ part. elim (cases_Bool (eqb part x)) [
        | inl yes_is ↦ subst (λ (k : ℕ). AllApart (going_on k cs)) (sym (eqb-true part x yes_is)) here.1
        | inr no_is ↦ rw no_is at (h part)
      ]),
    )

leaf_apart : (cs : List (List ℕ)) → cs ≡ [] ∷ [] → AllApart cs
leaf_apart cs e = subst AllApart (sym e) (λ i d less. absurd (omega (arith, less)), tt)

none_apart : (cs : List (List ℕ)) → cs ≡ [] → AllApart cs
none_apart cs e = subst AllApart (sym e) tt

tree_apart : (n : ℕ) (cs : List (List ℕ)) → FullTree n cs → AllApart cs
tree_apart zero cs t = leaf_apart cs t
tree_apart (suc n) cs (inl t) = leaf_apart cs t
tree_apart (suc n) cs (inr t) = apart_back cs t.1 (λ part. elim (nat_order part (values_of cs)) [
  | inl within ↦ tree_apart n (going_on part cs) (t.2 part within)
  | inr past ↦ none_apart (going_on part cs) (beyond part cs past)
])

-- ---- the codes of a state
some_from : {X : Type 0} (from : ℕ) (xs : List X) → xs ≢ [] → parts_in (coded_from [] from xs) ≢ []
some_from from [] ne = λ e. ne refl
some_from from (x ∷ xs) ne = λ e. absurd cc

some_second : {X : Type 0} (y : Second X) → HasMembers y → parts_in (left_by y) ≢ []
some_second (single x) h = λ e. absurd cc
some_second (group xs) h = some_from 0 xs h

members_tree : {X : Type 0} (xs : List X) → xs ≢ [] → FullTree 1 (parts_in (coded_from [] 0 xs))
members_tree {X} xs ne = inr (
  some_from 0 xs ne,
  not_from 0 xs,
  λ part less.
      let within : part < length xs = omega (arith, third_count xs, less) in
      let k = within_get xs part within in
      let same : part ≡ 0 + part = omega arith in
      sym (parts_behind part (coded_from [] 0 xs)) ∙ ap parts_in (ap (λ (i : ℕ). behind (i ∷ []) (coded_from [] 0 xs)) same ∙ from_here 0 part xs k.0 k.1),
)

second_tree : {X : Type 0} (y : Second X) → HasMembers y → FullTree 1 (parts_in (left_by y))
second_tree (single x) h = inl refl
second_tree (group xs) h = members_tree xs h

some_seconds : {X : Type 0} (from : ℕ) (ys : List (Second X)) → All HasMembers ys → ys ≢ [] → parts_in (coded_seconds [] from ys) ≢ []
some_seconds from [] h ne = λ e. ne refl
some_seconds {X} from (single x ∷ ys) h ne = λ e. absurd cc
some_seconds {X} from (group [] ∷ ys) h ne = λ e. h 0 (group []) (omega arith) refl
some_seconds {X} from (group (x ∷ xs) ∷ ys) h ne = λ e. absurd cc

h_at : {Y : Type 0} (ys : List (Second Y)) → All HasMembers ys → (i : ℕ) (y : Second Y) → slice_get ys i ≡ Some y → HasMembers y
h_at [] h i y e = absurd cc
h_at {Y} (z ∷ ys) h zero y e = subst HasMembers (some_is z y e) (all_head HasMembers z ys h)
h_at {Y} (z ∷ ys) h (suc i) y e = h_at ys (all_tail HasMembers z ys h) i y e

absurd_cons : {Y : Type 0} (y : Y) (ys : List Y) → y ∷ ys ≡ [] → ⊥
absurd_cons y ys e = absurd cc

seconds_tree : {X : Type 0} (ys : List (Second X)) → All HasMembers ys → ys ≢ [] → FullTree 2 (parts_in (coded_seconds [] 0 ys))
seconds_tree {X} ys h ne = inr (
  some_seconds 0 ys h ne,
  not_seconds 0 ys,
  λ part less.
      let within : part < length ys = omega (arith, second_count ys h, less) in
      let k = within_get ys part within in
      let same : part ≡ 0 + part = omega arith in
      let left : going_on part (parts_in (coded_seconds [] 0 ys)) ≡ parts_in (left_by k.0) = sym (parts_behind part (coded_seconds [] 0 ys)) ∙ ap parts_in (ap (λ (i : ℕ). behind (i ∷ []) (coded_seconds [] 0 ys)) same ∙ seconds_here 0 part ys k.0 k.1) in
      subst (FullTree 1) (sym left) (second_tree k.0 (h_at ys h part k.0 k.1)),
)

longer_tree : {X : Type 0} (p : Productions X) → IsClosedUp p → (part : ℕ) → length p.firsts ≤ part → part < first_values p → FullTree 2 (going_on part (codes p))
longer_tree {X} p h part past less = by p.seconds refl
  where
    by : (ys : List (Second X)) → p.seconds ≡ ys → FullTree 2 (going_on part (codes p))
    by [] e = let none : longer p.seconds ≡ 0 = ap longer e in absurd (omega (arith, none, past, less))
    by (y ∷ ys) e =
        let one : longer p.seconds ≡ 1 = ap longer e in
        let is : part ≡ length p.firsts = omega (arith, one, past, less) in
        let left : going_on part (codes p) ≡ parts_in (coded_seconds [] 0 p.seconds) = ap (λ (k : ℕ). going_on k (codes p)) is ∙ sym (parts_behind (length p.firsts) (coded p)) ∙ ap parts_in (state_longer p) in
        subst (FullTree 2) (sym left) (seconds_tree p.seconds h (λ none. absurd_cons y ys (sym e ∙ none)))

state_tree : {X : Type 0} (p : Productions X) → IsClosedUp p → (part : ℕ) → part < values_of (codes p) → FullTree 2 (going_on part (codes p))
state_tree {X} p h part less = by (slice_get p.firsts part) refl
  where
    by : (o : Option X) → slice_get p.firsts part ≡ o → FullTree 2 (going_on part (codes p))
    by (Some x) e = inl (sym (parts_behind part (coded p)) ∙ ap parts_in (state_first p part x e))
    by None e =
        let past : length p.firsts ≤ part = get_none p.firsts part e in
        let more : values_of (codes p) ≡ first_values p = first_count p h in
        longer_tree p h part past (omega (arith, more, less))

pub state_set : {X : Type 0} (p : Productions X) → IsClosedUp p → IsCodeSet (codes p)
state_set p h = record {
  apart = apart_back (codes p) (not_codes p) (λ part. elim (nat_order part (values_of (codes p))) [
    | inl within ↦ tree_apart 2 (going_on part (codes p)) (state_tree p h part within)
    | inr past ↦ none_apart (going_on part (codes p)) (beyond part (codes p) past)
  ]);
  no_gaps = gaps;
}
  where
    gaps : NoGaps (codes p)
    gaps [] part less = some_codes 2 (going_on part (codes p)) (state_tree p h part less)
    gaps (first ∷ front) part less = elim (nat_order first (values_of (codes p))) [
      | inl within ↦ tree_gaps 2 (going_on first (codes p)) (state_tree p h first within) front part less
      | inr past ↦ absurd (no_values front (going_on first (codes p)) part (beyond first (codes p) past) less)
    ]
