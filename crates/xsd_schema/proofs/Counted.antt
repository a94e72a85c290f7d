-- The place of what an element declares among those of its kind, and the list of all of them.
use Rattle.std.proofs.Common.{◌≡◌, ℕ, zero, suc, ◌+◌, ◌<◌, ◌≤◌, Bool, true, false, cond, Some, option_map, inl, inr, List, [], ◌∷◌, ◌++◌, All, filter, length, map, refl, sym, ap, ◌∙◌, arith}
use Rattle.std.specs.List.{slice_get}
use Rattle.std.proofs.lemmas.Bool.{cases_Bool, cases_eq, cases_lt}
use Rattle.std.proofs.lemmas.List.{append-nil, length-append, length-map}
use Rattle.std.proofs.lemmas.List.Elements.{All-cons, All-nil, filter-append}
use Rattle.std.proofs.lemmas.Option.{none-some, slice_get-map}
use Rattle.xsd_document.proofs.Below.{below, below_more, below_zero, places_are}
use Rattle.xsd_tree.specs.declared.node.Node.{Node}
use Rattle.xsd_nodes.specs.Nodes.{places, places_from}
use Rattle.xsd_places.specs.Kinds.{count_before, is_kind, place_of}
use Rattle.xsd_places.specs.declared.kind.Kind.{Kind}

-- ---- counts
pub count_here : (test : ℕ → Bool) (n : ℕ) → test n ≡ true → count_before test (suc n) ≡ suc (count_before test n)
count_here test n e = ap (λ b. cond b (suc (count_before test n)) (count_before test n)) e

pub count_passes : (test : ℕ → Bool) (n : ℕ) → test n ≡ false → count_before test (suc n) ≡ count_before test n
count_passes test n e = ap (λ b. cond b (suc (count_before test n)) (count_before test n)) e

pub count_grows : (test : ℕ → Bool) (n : ℕ) → count_before test n ≤ count_before test (suc n)
count_grows test n = elim (cases_Bool (test n)) [
  | inl e ↦ let s : count_before test (suc n) ≡ suc (count_before test n) = count_here test n e in omega (arith, s)
  | inr e ↦ let s : count_before test (suc n) ≡ count_before test n = count_passes test n e in omega (arith, s)
]

-- no fewer stand before a later place
pub count_up : (test : ℕ → Bool) (i n : ℕ) → i ≤ n → count_before test i ≤ count_before test n
count_up test i zero le = let e : i ≡ zero = omega (arith, le) in let s : count_before test i ≡ count_before test zero = ap (count_before test) e in omega (arith, s)
count_up test i (suc n) le = elim (cases_eq i (suc n)) [
  | inl e ↦ let s : count_before test i ≡ count_before test (suc n) = ap (count_before test) e in omega (arith, s)
  | inr d ↦
      let before : count_before test i ≤ count_before test n = count_up test i n (omega (arith, le, d)) in
      let more : count_before test n ≤ count_before test (suc n) = count_grows test n in
      omega (arith, before, more)
]

-- what passes counts before each later place
pub count_less : (test : ℕ → Bool) (i n : ℕ) → test i ≡ true → i < n → count_before test i < count_before test n
count_less test i n e less =
    let here : count_before test (suc i) ≡ suc (count_before test i) = count_here test i e in
    let up : count_before test (suc i) ≤ count_before test n = count_up test (suc i) n (omega (arith, less)) in
    omega (arith, here, up)

-- ---- the list of those that pass
abbrev pub passed : (ℕ → Bool) → ℕ → List ℕ
passed test n = filter test (below n)

pub passed_more : (test : ℕ → Bool) (n : ℕ) → passed test (suc n) ≡ passed test n ++ cond (test n) (n ∷ []) []
passed_more test n =
    let e : suc n ≡ n + 1 = omega arith in
    ap (λ (k : ℕ). filter test (below k)) e ∙ ap (filter test) (below_more n) ∙ filter-append test (below n) (n ∷ [])

pub passed_one : (test : ℕ → Bool) (n : ℕ) → test n ≡ true → passed test (suc n) ≡ passed test n ++ n ∷ []
passed_one test n e = passed_more test n ∙ ap (λ b. passed test n ++ cond b (n ∷ []) []) e

pub passed_none : (test : ℕ → Bool) (n : ℕ) → test n ≡ false → passed test (suc n) ≡ passed test n
passed_none test n e = passed_more test n ∙ ap (λ b. passed test n ++ cond b (n ∷ []) []) e ∙ append-nil (passed test n)

pub passed_count : (test : ℕ → Bool) (n : ℕ) → length (passed test n) ≡ count_before test n
passed_count test zero = ap (λ (l : List ℕ). length (filter test l)) below_zero
passed_count test (suc n) = elim (cases_Bool (test n)) [
  | inl e ↦
      let one : length (passed test n ++ n ∷ []) ≡ length (passed test n) + 1 = length-append (passed test n) (n ∷ []) in
      let more : length (passed test (suc n)) ≡ length (passed test n ++ n ∷ []) = ap length (passed_one test n e) in
      let here : count_before test (suc n) ≡ suc (count_before test n) = count_here test n e in
      let before : length (passed test n) ≡ count_before test n = passed_count test n in
      omega (arith, one, more, here, before)
  | inr e ↦ ap length (passed_none test n e) ∙ passed_count test n ∙ sym (count_passes test n e)
]

pub slice_left : {X : Type 0} (xs ys : List X) (i : ℕ) (x : X) → slice_get xs i ≡ Some x → slice_get (xs ++ ys) i ≡ Some x
slice_left [] ys i x e = absurd (none-some x e)
slice_left (y ∷ xs) ys zero x e = e
slice_left (y ∷ xs) ys (suc i) x e = slice_left xs ys i x e

pub slice_right : {X : Type 0} (xs ys : List X) (i : ℕ) → slice_get (xs ++ ys) (length xs + i) ≡ slice_get ys i
slice_right [] ys i = let e : 0 + i ≡ i = omega arith in ap (slice_get ys) e
slice_right (x ∷ xs) ys i = let e : suc (length xs) + i ≡ suc (length xs + i) = omega arith in ap (slice_get (x ∷ (xs ++ ys))) e ∙ slice_right xs ys i

slice_last : {X : Type 0} (xs : List X) (x : X) → slice_get (xs ++ x ∷ []) (length xs) ≡ Some x
slice_last [] x = refl
slice_last (y ∷ xs) x = slice_last xs x

-- the one that passes stands at its place
pub passed_at : (test : ℕ → Bool) (i n : ℕ) → test i ≡ true → i < n → slice_get (passed test n) (count_before test i) ≡ Some i
passed_at test i zero e less = absurd (omega (arith, less))
passed_at test i (suc n) e less = elim (cases_eq i n) [
  | inl same ↦
      let passes : test n ≡ true = ap test (sym same) ∙ e in
      let place : count_before test i ≡ length (passed test n) = ap (count_before test) same ∙ sym (passed_count test n) in
      ap (λ (l : List ℕ). slice_get l (count_before test i)) (passed_one test n passes)
      ∙ ap (slice_get (passed test n ++ n ∷ [])) place
      ∙ slice_last (passed test n) n
      ∙ ap (λ (k : ℕ). Some k) (sym same)
  | inr d ↦
      let before : slice_get (passed test n) (count_before test i) ≡ Some i = passed_at test i n e (omega (arith, less, d)) in
      ap (λ (l : List ℕ). slice_get l (count_before test i)) (passed_more test n)
      ∙ slice_left (passed test n) (cond (test n) (n ∷ []) []) (count_before test i) i before
]

-- each place is that of one that passes
pub passed_from : (test : ℕ → Bool) (n place : ℕ) → place < count_before test n → (i : ℕ) × (i < n) × (test i ≡ true) × (count_before test i ≡ place)
passed_from test zero place less = absurd (omega (arith, less))
passed_from test (suc n) place less = elim (cases_lt place (count_before test n)) [
  | inl before ↦
      let found = passed_from test n place before in
      (found.0, omega (arith, found.1), found.2, found.3)
  | inr le ↦ elim (cases_Bool (test n)) [
    | inl e ↦
        let here : count_before test (suc n) ≡ suc (count_before test n) = count_here test n e in
        (n, omega arith, e, omega (arith, le, less, here))
    | inr e ↦
        let here : count_before test (suc n) ≡ count_before test n = count_passes test n e in
        absurd (omega (arith, le, less, here))
  ]
]

-- ---- what is listed of those that pass
module _ {X : Type 0} (f : ℕ → X) (test : ℕ → Bool) (ns : List Node) where
  abbrev pub listing : List X
  listing = map f (filter test (places ns))

  listing_is : listing ≡ map f (passed test (length ns))
  listing_is = ap (λ (l : List ℕ). map f (filter test l)) (places_are ns)

  pub listing_count : length listing ≡ count_before test (length ns)
  listing_count = length-map (filter test (places ns)) f ∙ ap (λ (l : List ℕ). length (filter test l)) (places_are ns) ∙ passed_count test (length ns)

  -- the place of one that passes is there
  pub listing_within : (i : ℕ) → i < length ns → test i ≡ true → count_before test i < length listing
  listing_within i less e =
      let count : length listing ≡ count_before test (length ns) = listing_count in
      let fewer : count_before test i < count_before test (length ns) = count_less test i (length ns) e less in
      omega (arith, count, fewer)

  -- and what stands there is its own
  pub listing_at : (i : ℕ) → i < length ns → test i ≡ true → slice_get listing (count_before test i) ≡ Some (f i)
  listing_at i less e =
      ap (λ (l : List X). slice_get l (count_before test i)) listing_is
      ∙ slice_get-map f (passed test (length ns)) (count_before test i)
      ∙ ap (option_map f) (passed_at test i (length ns) e less)

  -- each place of the list is that of one
  pub listing_from : (place : ℕ) → place < length listing → (i : ℕ) × (i < length ns) × (test i ≡ true) × (count_before test i ≡ place)
  listing_from place less =
      let count : length listing ≡ count_before test (length ns) = listing_count in
      passed_from test (length ns) place (omega (arith, less, count))

-- what holds of each that passes holds of all that is listed
one_listed : {X : Type 0} (f : ℕ → X) (test : ℕ → Bool) (P : X → Type 0) (i : ℕ) (more : List ℕ) (b : Bool) → (b ≡ true → P (f i)) → All P (map f more) → All P (map f (cond b (i ∷ more) more))
one_listed f test P i more true here rest = All-cons P (f i) (map f more) (here refl) rest
one_listed f test P i more false here rest = rest

listed_from : {X : Type 0} (f : ℕ → X) (test : ℕ → Bool) (P : X → Type 0) (i : ℕ) (ns : List Node) → ((j : ℕ) → j < i + length ns → test j ≡ true → P (f j)) → All P (map f (filter test (places_from i ns)))
listed_from f test P i [] h = All-nil P
listed_from f test P i (n ∷ ns) h =
    one_listed f test P i (filter test (places_from (suc i) ns)) (test i) (h i (omega arith))
    (listed_from f test P (suc i) ns (λ j less e. h j (omega (arith, less)) e))

pub all_listed : {X : Type 0} (f : ℕ → X) (test : ℕ → Bool) (P : X → Type 0) (ns : List Node) → ((i : ℕ) → i < length ns → test i ≡ true → P (f i)) → All P (map f (filter test (places ns)))
all_listed f test P ns h = listed_from f test P 0 ns (λ i less e. h i (omega (arith, less)) e)

-- ---- the same, told which place it is
abbrev pub EachAt : {X : Type 0} → (ℕ → X → Type 0) → ℕ → List X → Type 0
EachAt P place [] = Unit {0}
EachAt P place (x ∷ xs) = P place x × EachAt P (suc place) xs

one_each : {X : Type 0} (f : ℕ → X) (P : ℕ → X → Type 0) (i place : ℕ) (more : List ℕ) (b : Bool) → (b ≡ true → P place (f i)) → EachAt P (cond b (suc place) place) (map f more) → EachAt P place (map f (cond b (i ∷ more) more))
one_each f P i place more true here rest = (here refl, rest)
one_each f P i place more false here rest = rest

each_from : {X : Type 0} (f : ℕ → X) (test : ℕ → Bool) (P : ℕ → X → Type 0) (i : ℕ) (ns : List Node) → ((j : ℕ) → j < i + length ns → test j ≡ true → P (count_before test j) (f j)) → EachAt P (count_before test i) (map f (filter test (places_from i ns)))
each_from f test P i [] h = tt
each_from f test P i (n ∷ ns) h =
    one_each f P i (count_before test i) (filter test (places_from (suc i) ns)) (test i) (h i (omega arith))
    (each_from f test P (suc i) ns (λ j less e. h j (omega (arith, less)) e))

pub each_listed : {X : Type 0} (f : ℕ → X) (test : ℕ → Bool) (P : ℕ → X → Type 0) (ns : List Node) → ((i : ℕ) → i < length ns → test i ≡ true → P (count_before test i) (f i)) → EachAt P 0 (map f (filter test (places ns)))
each_listed f test P ns h = each_from f test P 0 ns (λ i less e. h i (omega (arith, less)) e)

-- ---- by kinds
pub place_within : (k : Kind) (ns : List Node) (i : ℕ) → i < length ns → is_kind k ns i ≡ true → place_of k ns i < length (filter (is_kind k ns) (places ns))
place_within k ns i less e =
    let within : count_before (is_kind k ns) i < length (map (λ (j : ℕ). j) (filter (is_kind k ns) (places ns))) = listing_within (λ (j : ℕ). j) (is_kind k ns) ns i less e in
    let same : length (map (λ (j : ℕ). j) (filter (is_kind k ns) (places ns))) ≡ length (filter (is_kind k ns) (places ns)) = length-map (filter (is_kind k ns) (places ns)) (λ (j : ℕ). j) in
    omega (arith, within, same)
