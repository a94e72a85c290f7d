-- The places given under names, and what is kept for them.
use Rattle.std.proofs.Common.{◌≡◌, ◌≢◌, ℕ, zero, suc, ◌<◌, ◌≤◌, ◌+◌, ◌-◌, Bool, not, true, false, cond, ltb, List, [], ◌∷◌, ◌++◌, length, set, get_or, Option, Some, None, refl, sym, ap, ◌∙◌, arith, inl, inr, length-append}
use Rattle.std.specs.Prelude.{position, slice_get, nat_eq, option_map, option_and_then, unwrap_or}
use Rattle.std.specs.List.{prefix_len}
use Rattle.std.proofs.lemmas.Bool.{cases_Bool, cases_eq, cases_lt, eq-eqb, eqb-true, lt-ltb, ltb-true}
use Rattle.std.proofs.lemmas.List.{length-map, length-set, map-append, map-set}
use Rattle.std.proofs.lemmas.List.Quantifiers.{position-Some}
use Rattle.std.proofs.lemmas.Option.{slice_get-get_or, slice_get-map}
use Rattle.exi_names.specs.NameMaps.{kept_for, same_name}
use Rattle.exi_names.specs.declared.names.NameId.{NameId}
use Rattle.exi_tables.specs.declared.live.Given.{Given}
use Rattle.exi_tables.specs.Kept.{IsForgotten, IsNumbered, Row, given_of, givens, kept_in, kept_place, kept_under, row_of, with_place, without_first, without_place}
use Rattle.exi_tables.specs.Values.{given_to, name_place, one_more}
use Rattle.exi_tables.proofs.Counts.{counted_there}
use Rattle.exi_tables.proofs.Given.{same_is}
use Rattle.exi_tables.proofs.Least.{get_before, get_last, position_append, position_new, position_other}

some_place : (a b : ℕ) → Some a ≡ Some b → a ≡ b
some_place a b e = cc

-- ---- one row
pub kept_early : (r : Row) (local : ℕ) → local < r.first → None ≡ kept_in r local
kept_early r local before = rw (lt-ltb local r.first before) refl

not_before : (a b : ℕ) → b ≤ a → ltb a b ≡ false
not_before a b past = elim (cases_Bool (ltb a b)) [
  | inl yes_is ↦ (let lt : a < b = ltb-true a b yes_is in absurd (omega (arith, lt, past)))
  | inr no_is ↦ no_is
]

pub kept_late : (r : Row) (local : ℕ) → r.first ≤ local → kept_in r local ≡ slice_get r.places (local - r.first)
kept_late r local past = rw (not_before local r.first past) refl

-- what is kept stays with one place more
pub stays : (r : Row) (global local : ℕ) → local < r.first + length r.places → kept_in (with_place global r) local ≡ kept_in r local
stays r global local below = elim (cases_lt local r.first) [
  | inl before ↦ sym (kept_early (with_place global r) local before) ∙ kept_early r local before
  | inr past ↦
      let within : local - r.first < length r.places = omega (arith, below, past) in
      kept_late (with_place global r) local past ∙ get_before r.places global (local - r.first) within ∙ sym (kept_late r local past)
]

pub stands : (r : Row) (global : ℕ) → kept_in (with_place global r) (r.first + length r.places) ≡ Some global
stands r global =
    let past : r.first ≤ r.first + length r.places = omega arith in
    let index : r.first + length r.places - r.first ≡ length r.places = omega arith in
    kept_late (with_place global r) (r.first + length r.places) past ∙ ap (slice_get (r.places ++ global ∷ [])) index ∙ get_last r.places global

-- one is let go, and the others stay
let_go : (r : Row) (places : List ℕ) → r.places ≡ places → (other : ℕ) → other ≢ r.first → kept_in (without_first r places) other ≡ kept_in r other
let_go r [] is other apart = refl
let_go r (p ∷ ps) is other apart = elim (cases_lt other r.first) [
  | inl before ↦
      let sooner : other < r.first + 1 = omega (arith, before) in
      sym (kept_early (without_first r (p ∷ ps)) other sooner) ∙ kept_early r other before
  | inr past ↦
      let later : r.first + 1 ≤ other = omega (arith, past, apart) in
      let index : other - r.first ≡ suc (other - (r.first + 1)) = omega (arith, later) in
      kept_late (without_first r (p ∷ ps)) other later ∙ sym (kept_late r other past ∙ ap (λ xs. slice_get xs (other - r.first)) is ∙ ap (slice_get (p ∷ ps)) index)
]

pub gone : (r : Row) (local other : ℕ) → other ≢ local → kept_in (without_place local r) other ≡ kept_in r other
gone r local other apart = elim (cases_Bool (nat_eq local r.first)) [
  | inl yes_is ↦ (let is : local ≡ r.first = eqb-true local r.first yes_is in rw yes_is (let_go r r.places refl other (λ e. apart (e ∙ sym is))))
  | inr no_is ↦ rw no_is refl
]

fewer : (r : Row) (places : List ℕ) → r.places ≡ places → given_of (without_first r places) ≡ given_of r
fewer r [] is = refl
fewer r (p ∷ ps) is =
    let count : r.first + 1 + length ps ≡ r.first + length r.places = omega (arith, ap length is) in
    ap (λ n. record { name = r.name; count = n }) count

pub as_many : (r : Row) (local : ℕ) → given_of (without_place local r) ≡ given_of r
as_many r local = elim (cases_Bool (nat_eq local r.first)) [
  | inl yes_is ↦ rw yes_is (fewer r r.places refl)
  | inr no_is ↦ rw no_is refl
]

-- ---- one row of many
prefix_set : {X : Type 0} (p : X → Bool) (xs : List X) (i : ℕ) (y d : X) → p y ≡ p (get_or xs i d) → prefix_len p (set xs i y) ≡ prefix_len p xs
prefix_set p [] i y d e = refl
prefix_set p (x ∷ xs) zero y d e = rw e refl
prefix_set p (x ∷ xs) (suc i) y d e = ap (λ n. cond (p x) (1 + n) 0) (prefix_set p xs i y d e)

position_set : {X : Type 0} (p : X → Bool) (xs : List X) (i : ℕ) (y d : X) → p y ≡ p (get_or xs i d) → position p (set xs i y) ≡ position p xs
position_set p xs i y d e =
    let same : prefix_len (λ x. not (p x)) (set xs i y) ≡ prefix_len (λ x. not (p x)) xs = prefix_set (λ x. not (p x)) xs i y d (ap not e) in
    rw (same, length-set) refl

get_set_here : {X : Type 0} (xs : List X) (i : ℕ) (y : X) → i < length xs → slice_get (set xs i y) i ≡ Some y
get_set_here [] i y within = absurd (omega (arith, within))
get_set_here (x ∷ xs) zero y within = refl
get_set_here (x ∷ xs) (suc i) y within = get_set_here xs i y (omega (arith, within))

get_set_other : {X : Type 0} (xs : List X) (i j : ℕ) (y : X) → j ≢ i → slice_get (set xs i y) j ≡ slice_get xs j
get_set_other [] i j y apart = refl
get_set_other (x ∷ xs) zero zero y apart = absurd (apart refl)
get_set_other (x ∷ xs) zero (suc j) y apart = refl
get_set_other (x ∷ xs) (suc i) zero y apart = refl
get_set_other (x ∷ xs) (suc i) (suc j) y apart = get_set_other xs i j y (λ e. apart (ap suc e))

get_or_map : (rows : List Row) (i : ℕ) (r : Row) → get_or (givens rows) i (given_of r) ≡ given_of (get_or rows i r)
get_or_map [] i r = refl
get_or_map (x ∷ xs) zero r = refl
get_or_map (x ∷ xs) (suc i) r = get_or_map xs i r

-- how many were given under a name is told by its row
abbrev pub given_in : Option Row → ℕ
given_in None = 0
given_in (Some r) = r.first + length r.places

pub given_is : (name : NameId) (rows : List Row) → given_to name (givens rows) ≡ given_in (row_of name rows)
given_is name rows = by (name_place name (givens rows))
  where
    counted : (o : Option Row) → unwrap_or (option_map (λ (g : Given). g.count) (option_map given_of o)) 0 ≡ given_in o
    counted None = refl
    counted (Some r) = refl

    by : (o : Option ℕ) → unwrap_or (option_map (λ (g : Given). g.count) (option_and_then (slice_get (givens rows)) o)) 0 ≡ given_in (option_and_then (slice_get rows) o)
    by None = refl
    by (Some i) = ap (λ p. unwrap_or (option_map (λ (g : Given). g.count) p) 0) (slice_get-map given_of rows i) ∙ counted (slice_get rows i)

module _ (name : NameId) (rows : List Row) (i : ℕ) (r : Row) (found : name_place name (givens rows) ≡ Some i) (is : r ≡ get_or rows i r) where
  within : i < length rows
  within = (let at = position-Some (λ (g : Given). same_name name g.name) (givens rows) i (given_of r) found in rw length-map at at.0)

  here : slice_get rows i ≡ Some r
  here = slice_get-get_or rows i r within ∙ ap (λ x. Some x) (sym is)

  named : name ≡ r.name
  named =
      let at = position-Some (λ (g : Given). same_name name g.name) (givens rows) i (given_of r) found in
      let row_is : get_or (givens rows) i (given_of r) ≡ given_of r = get_or_map rows i r ∙ ap given_of (sym is) in
      same_is name r.name (ap (λ (g : Given). same_name name g.name) (sym row_is) ∙ at.1)

  pub row_here : row_of name rows ≡ Some r
  row_here = ap (option_and_then (slice_get rows)) found ∙ here

  pub given_here : given_to name (givens rows) ≡ r.first + length r.places
  given_here = given_is name rows ∙ ap given_in row_here

  module _ (new : Row) (same_named : new.name ≡ r.name) where
    pub place_stays : (n : NameId) → name_place n (givens (set rows i new)) ≡ name_place n (givens rows)
    place_stays n =
        let row_is : get_or (givens rows) i (given_of r) ≡ given_of r = get_or_map rows i r ∙ ap given_of (sym is) in
        let test : same_name n new.name ≡ same_name n (get_or (givens rows) i (given_of r)).name = ap (same_name n) same_named ∙ ap (λ (g : Given). same_name n g.name) (sym row_is) in
        ap (position (λ (g : Given). same_name n g.name)) (map-set given_of rows i new)
        ∙ position_set (λ (g : Given). same_name n g.name) (givens rows) i (given_of new) (given_of r) test

    -- the row of a name is the new one, or stays
    pub rows_then : (n : NameId) (local : ℕ) → (n ≡ name → kept_in new local ≡ kept_in r local) → kept_place (set rows i new) n local ≡ kept_place rows n local
    rows_then n local same = ap (λ o. kept_under (option_and_then (slice_get (set rows i new)) o) local) (place_stays n) ∙ by (name_place n (givens rows)) refl
      where
        by : (o : Option ℕ) → name_place n (givens rows) ≡ o → kept_under (option_and_then (slice_get (set rows i new)) o) local ≡ kept_under (option_and_then (slice_get rows) o) local
        by None e = refl
        by (Some j) e = elim (cases_eq j i) [
          | inl j_is ↦
              let n_at = position-Some (λ (g : Given). same_name n g.name) (givens rows) j (given_of r) e in
              let row_is : get_or (givens rows) j (given_of r) ≡ given_of r = ap (λ k. get_or (givens rows) k (given_of r)) j_is ∙ get_or_map rows i r ∙ ap given_of (sym is) in
              let n_is : n ≡ r.name = same_is n r.name (ap (λ (g : Given). same_name n g.name) (sym row_is) ∙ n_at.1) in
              ap (λ o. kept_under o local) (ap (slice_get (set rows i new)) j_is ∙ get_set_here rows i new within) ∙ same (n_is ∙ sym named)
              ∙ ap (λ o. kept_under o local) (sym (ap (slice_get rows) j_is ∙ here))
          | inr other ↦ ap (λ o. kept_under o local) (get_set_other rows i j new other)
        ]

    pub row_then : (local : ℕ) → kept_place (set rows i new) name local ≡ kept_in new local
    row_then local =
        ap (λ o. kept_under (option_and_then (slice_get (set rows i new)) o) local) (place_stays name ∙ found)
        ∙ ap (λ o. kept_under o local) (get_set_here rows i new within)

    pub numbered_then : (numbers : List (List (Option ℕ))) → IsNumbered numbers (givens rows) → IsNumbered numbers (givens (set rows i new))
    numbered_then numbers numbered = record { number = λ n. numbered.number n ∙ sym (place_stays n) }

  -- ---- a place more under a name that has some
  pub push_given : (global : ℕ) → givens (set rows i (with_place global r)) ≡ one_more name (givens rows)
  push_given global =
      let count : r.first + length (r.places ++ global ∷ []) ≡ r.first + length r.places + 1 = omega (arith, length-append r.places (global ∷ [])) in
      map-set given_of rows i (with_place global r) ∙ ap (λ n. set (givens rows) i (record { name = r.name; count = n })) count
      ∙ counted_there name (givens rows) i (given_of r) found (ap given_of is ∙ sym (get_or_map rows i r))

  pub push_there : (global : ℕ) → kept_place (set rows i (with_place global r)) name (given_to name (givens rows)) ≡ Some global
  push_there global = row_then (with_place global r) refl (given_to name (givens rows)) ∙ ap (kept_in (with_place global r)) given_here ∙ stands r global

  pub push_others : (global : ℕ) (n : NameId) (local : ℕ) → local < given_to n (givens rows) → kept_place (set rows i (with_place global r)) n local ≡ kept_place rows n local
  push_others global n local below = rows_then (with_place global r) refl n local (λ e.
      let counts : given_to n (givens rows) ≡ r.first + length r.places = ap (λ m. given_to m (givens rows)) e ∙ given_here in
      stays r global local (omega (arith, below, counts)))

  -- ---- a place is let go
  pub forget_given : (local : ℕ) → givens (set rows i (without_place local r)) ≡ givens rows
  forget_given local = map-set given_of rows i (without_place local r) ∙ ap (set (givens rows) i) (as_many r local) ∙ set_same
    where
      set_back : (gs : List Given) (k : ℕ) (g : Given) → g ≡ get_or gs k g → set gs k g ≡ gs
      set_back [] k g e = refl
      set_back (x ∷ xs) zero g e = ap (λ y. y ∷ xs) e
      set_back (x ∷ xs) (suc k) g e = ap (λ ys. x ∷ ys) (set_back xs k g e)

      set_same : set (givens rows) i (given_of r) ≡ givens rows
      set_same = set_back (givens rows) i (given_of r) (ap given_of is ∙ sym (get_or_map rows i r))

  pub forget_name : (local : ℕ) → (without_place local r).name ≡ r.name
  forget_name local = ap (λ (g : Given). g.name) (as_many r local)

  pub forget_others : (local : ℕ) → IsForgotten name local rows (set rows i (without_place local r))
  forget_others local n other apart = rows_then (without_place local r) (forget_name local) n other (λ e. gone r local other (apart e))

-- ---- the first place under a name
module _ (name : NameId) (rows : List Row) (global : ℕ) (none : name_place name (givens rows) ≡ None) where
  abbrev first_row : Row
  first_row = record { name = name; first = 0; places = global ∷ [] }

  none_given : given_to name (givens rows) ≡ 0
  none_given = given_is name rows ∙ ap (λ o. given_in (option_and_then (slice_get rows) o)) none

  all_givens : givens (rows ++ first_row ∷ []) ≡ givens rows ++ record { name = name; count = 1 } ∷ []
  all_givens = map-append given_of rows (first_row ∷ [])

  pub first_given : givens (rows ++ first_row ∷ []) ≡ one_more name (givens rows)
  first_given = all_givens ∙ rw none refl

  pub first_local : 0 ≡ given_to name (givens rows)
  first_local = sym none_given

  place_first : (n : NameId) → same_name n name ≡ true → n ≡ name → name_place n (givens (rows ++ first_row ∷ [])) ≡ Some (length rows)
  place_first n yes_is is =
      let absent : name_place n (givens rows) ≡ None = ap (λ m. name_place m (givens rows)) is ∙ none in
      let long : length (givens rows) ≡ length rows = rw length-map refl in
      ap (name_place n) all_givens ∙ position_new (λ (g : Given). same_name n g.name) (givens rows) (record { name = name; count = 1 }) absent yes_is ∙ ap (λ (k : ℕ). Some k) long

  same_itself : same_name name name ≡ true
  same_itself = rw (eq-eqb name.uri name.uri refl, eq-eqb name.local name.local refl) refl

  pub first_there : kept_place (rows ++ first_row ∷ []) name (given_to name (givens rows)) ≡ Some global
  first_there =
      ap (kept_place (rows ++ first_row ∷ []) name) none_given
      ∙ ap (λ o. kept_under (option_and_then (slice_get (rows ++ first_row ∷ [])) o) 0) (place_first name same_itself refl)
      ∙ ap (λ o. kept_under o 0) (get_last rows first_row)

  pub first_others : (n : NameId) (local : ℕ) → local < given_to n (givens rows) → kept_place (rows ++ first_row ∷ []) n local ≡ kept_place rows n local
  first_others n local below = by (name_place n (givens rows)) refl
    where
      by : (o : Option ℕ) → name_place n (givens rows) ≡ o → kept_place (rows ++ first_row ∷ []) n local ≡ kept_under (option_and_then (slice_get rows) o) local
      by None e =
          let nothing : given_to n (givens rows) ≡ 0 = given_is n rows ∙ ap (λ o. given_in (option_and_then (slice_get rows) o)) e in
          absurd (omega (arith, below, nothing))
      by (Some j) e =
          let at = position-Some (λ (g : Given). same_name n g.name) (givens rows) j (record { name = name; count = 1 }) e in
          let inside : j < length rows = rw length-map at at.0 in
          let place : name_place n (givens (rows ++ first_row ∷ [])) ≡ Some j
          = ap (name_place n) all_givens ∙ position_append (λ (g : Given). same_name n g.name) j (givens rows) (record { name = name; count = 1 } ∷ []) e in
          ap (λ o. kept_under (option_and_then (slice_get (rows ++ first_row ∷ [])) o) local) place ∙ ap (λ o. kept_under o local) (get_before rows first_row j inside)

  pub first_numbered : (numbers more : List (List (Option ℕ))) → IsNumbered numbers (givens rows) →
      ((n : NameId) → kept_for more n ≡ cond (same_name n name) (Some (length rows)) (kept_for numbers n)) → IsNumbered more (givens (rows ++ first_row ∷ []))
  first_numbered numbers more numbered put = record {
    number = λ n. elim (cases_Bool (same_name n name)) [
      | inl yes_is ↦ put n ∙ rw yes_is (sym (place_first n yes_is (same_is n name yes_is)))
      | inr no_is ↦ put n ∙ rw no_is (numbered.number n ∙ sym (ap (name_place n) all_givens ∙ position_other (λ (g : Given). same_name n g.name) (givens rows) (record { name = name; count = 1 }) no_is))
    ];
  }
