-- What holds of each step of a grammar holds of each production of its normal form, whose places are within it.
use Rattle.std.proofs.Common.{◌≡◌, ◌⊎◌, inl, inr, ℕ, zero, suc, ◌+◌, ◌<◌, ◌≤◌, Bool, true, false, if◌then◌else◌, Option, Some, None, Ok, Err, List, [], ◌∷◌, ◌++◌, All, length, map, get_or, bytes_eq, refl, sym, ap, ◌∙◌, subst, arith, le_refl, lit≤}
use Rattle.std.specs.Prelude.{◌==◌, ◌||◌, ltb, filter}
use Rattle.std.proofs.lemmas.Bool.{cases_Bool, eqb-true, cases_lt, eqb-false, ltb-true, ltb-false, or_cases, or_parts}
use Rattle.std.proofs.lemmas.List.{length_push}
use Rattle.std.proofs.lemmas.List.Elements.{All-append, All-cons, All-filter, All-head, All-nil, All-push, All-tail, All-weaker}
use Rattle.exi_draft.specs.Drafts.{Draft, States, is_end}
use Rattle.exi_gram.specs.Reaching.{is_among}
use Rattle.exi_gram.specs.Schemas.{AllIn, LeadsWithin}
use Rattle.exi_gram.specs.Terminals.{Rule, Rules, StepRule, Symbol}
use Rattle.exi_normal.specs.Normals.{Met, Row, Work, all_states, differ, has_particle, in_places, into, merged, met, met_by, met_from, normal_made, normal_of, number_of, particle_before, place_of, reached_states, row_of, rows_from, rows_of, rules_from, same_symbol, steps_at, with_list, with_met, with_one_list, with_rows, with_state, worked, too_large}
use Rattle.std.proofs.lemmas.Slice.Eq.{bytes_eq-Decides}
use Rattle.exi_order.proofs.InOrder.{in_order-all}
use Rattle.exi_gram.specs.Orders.{in_order}
use Rattle.exi_compiled.proofs.Lists.{by_test, one, or_default}

-- ---- of what is read, and what it opens
abbrev pub IsRead : (Symbol → Option ℕ → Type 0) → Option Symbol → Option ℕ → Type 0
IsRead P None inner = Unit {0}
IsRead P (Some on) inner = P on inner

abbrev pub OfStep : (Symbol → Option ℕ → Type 0) → StepRule → Type 0
OfStep P s = IsRead P s.on s.inner

abbrev pub OfStates : (Symbol → Option ℕ → Type 0) → States → Type 0
OfStates P states = All (All (OfStep P)) states

abbrev pub OfRule : (Symbol → Option ℕ → Type 0) → Rule → Type 0
OfRule P r = P r.on r.inner

abbrev OfMet : (Symbol → Option ℕ → Type 0) → Met → Type 0
OfMet P m = P m.on m.inner

abbrev OfRow : (Symbol → Option ℕ → Type 0) → Row → Type 0
OfRow P r = P r.on r.inner

module _ (P : Symbol → Option ℕ → Type 0) where
  met_by_all : (s : StepRule) (o : Option Symbol) (others free : List Met) → IsRead P o s.inner → All (OfMet P) others → All (OfMet P) free → All (OfMet P) (met_by s o others free)
  met_by_all s None others free h a b = b
  met_by_all s (Some on) others free h a b = All-cons (OfMet P) (record { on = on; to = s.to; inner = s.inner; particle = s.particle }) others h a

  steps_all : (states : States) (place : ℕ) → OfStates P states → All (OfStep P) (steps_at states place)
  steps_all states place h = or_default (All (OfStep P)) states place [] h (All-nil (OfStep P))

  met_all : (states : States) (n : ℕ) (seen : List ℕ) (todo : List StepRule) → OfStates P states → All (OfStep P) todo → All (OfMet P) (met states n seen todo)
  unfolding met
  met_all states zero seen todo h a = All-nil (OfMet P)
  met_all states (suc n) seen [] h a = All-nil (OfMet P)
  met_all states (suc n) seen (s ∷ ss) h a =
      let rest = All-tail (OfStep P) s ss a in
      let skip = met_all states n seen ss h rest in
      let go = met_all states n (s.to ∷ seen) (steps_at states s.to ++ ss) h (All-append (OfStep P) (steps_at states s.to) ss (steps_all states s.to h) rest) in
      met_by_all s s.on (met states n seen ss)
      (if is_among s.to seen then met states n seen ss else met states n (s.to ∷ seen) (steps_at states s.to ++ ss))
      (All-head (OfStep P) s ss a) skip
      (by_test (OfMet P) (is_among s.to seen) (met states n seen ss) (met states n (s.to ∷ seen) (steps_at states s.to ++ ss)) skip go)

  into_all : (members : List ℕ) → All (OfStep P) (map into members)
  into_all [] = All-nil (OfStep P)
  into_all (m ∷ ms) = All-cons (OfStep P) (into m) (map into ms) tt (into_all ms)

  -- ---- rows
  with_met_all : (m : Met) (rows : List Row) → OfMet P m → All (OfRow P) rows → All (OfRow P) (with_met m rows)
  with_met_all m [] p h = one (OfRow P) (row_of m) p
  with_met_all m (r ∷ rs) p h =
      by_test (OfRow P) (same_symbol m.on r.on) (merged m r ∷ rs) (r ∷ with_met m rs)
      (All-cons (OfRow P) (merged m r) rs (All-head (OfRow P) r rs h) (All-tail (OfRow P) r rs h))
      (All-cons (OfRow P) r (with_met m rs) (All-head (OfRow P) r rs h) (with_met_all m rs p (All-tail (OfRow P) r rs h)))

  rows_all : (rows : List Row) (ms : List Met) → All (OfRow P) rows → All (OfMet P) ms → All (OfRow P) (rows_from rows ms)
  rows_all rows [] h a = h
  rows_all rows (m ∷ ms) h a = rows_all (with_met m rows) ms (with_met_all m rows (All-head (OfMet P) m ms a) h) (All-tail (OfMet P) m ms a)

  places_all : (sorted rows : List Row) → All (OfRow P) sorted → All (OfRow P) rows → All (OfRow P) (in_places sorted rows)
  places_all sorted [] a h = All-nil (OfRow P)
  places_all [] (r ∷ rs) a h = All-cons (OfRow P) r (in_places [] rs) (All-head (OfRow P) r rs h) (places_all [] rs a (All-tail (OfRow P) r rs h))
  places_all (s ∷ sorted) (r ∷ rs) a h =
      let rest = All-tail (OfRow P) r rs h in
      by_test (OfRow P) (has_particle r) (s ∷ in_places sorted rs) (r ∷ in_places (s ∷ sorted) rs)
      (All-cons (OfRow P) s (in_places sorted rs) (All-head (OfRow P) s sorted a) (places_all sorted rs (All-tail (OfRow P) s sorted a) rest))
      (All-cons (OfRow P) r (in_places (s ∷ sorted) rs) (All-head (OfRow P) r rs h) (places_all (s ∷ sorted) rs a rest))

  pub rows_of_all : (states : States) (members : List ℕ) → OfStates P states → All (OfRow P) (rows_of states members)
  rows_of_all states members h =
      let all = rows_all [] (met_from states members) (All-nil (OfRow P)) (met_all states _ [] (map into members) h (into_all members)) in
      places_all (in_order particle_before (filter has_particle (rows_from [] (met_from states members)))) (rows_from [] (met_from states members))
      (in_order-all (OfRow P) particle_before (filter has_particle (rows_from [] (met_from states members))) (All-filter has_particle (OfRow P) (rows_from [] (met_from states members)) all))
      all

  rules_all : (own : ℕ) (rows : List Row) (lists : List (List ℕ)) → All (OfRow P) rows → All (OfRule P) (rules_from own rows lists)
  rules_all own [] lists h = All-nil (OfRule P)
  rules_all own (r ∷ rs) lists h =
      let here = All-head (OfRow P) r rs h in
      let rest = All-tail (OfRow P) r rs h in
      by_test (OfRule P) (is_end r.on) (record { on = r.on; to = own; inner = r.inner } ∷ rules_from own rs lists) (record { on = r.on; to = number_of r.targets lists; inner = r.inner } ∷ rules_from own rs (with_list r.targets lists))
      (All-cons (OfRule P) (record { on = r.on; to = own; inner = r.inner }) (rules_from own rs lists) here (rules_all own rs lists rest))
      (All-cons (OfRule P) (record { on = r.on; to = number_of r.targets lists; inner = r.inner }) (rules_from own rs (with_list r.targets lists)) here (rules_all own rs (with_list r.targets lists) rest))

-- ---- places of lists
place_cases : (from : ℕ) (list : List ℕ) (ls : List (List ℕ)) → (place_of from list ls ≡ None) ⊎ ((k : ℕ) × (place_of from list ls ≡ Some k) × (k < from + length ls))
place_cases from list [] = inl refl
place_cases from list (l ∷ ls) = by (bytes_eq list l) (place_cases (suc from) list ls)
  where
    by : (b : Bool) → (place_of (suc from) list ls ≡ None) ⊎ ((k : ℕ) × (place_of (suc from) list ls ≡ Some k) × (k < suc from + length ls))
        → ((if b then Some from else place_of (suc from) list ls) ≡ None) ⊎ ((k : ℕ) × ((if b then Some from else place_of (suc from) list ls) ≡ Some k) × (k < from + length (l ∷ ls)))
    by true h = inr (from, refl, omega arith)
    by false (inl e) = inl e
    by false (inr w) = let less : w.0 < suc from + length ls = w.2 in inr (w.0, w.1, omega (arith, less))

place_stays : (from : ℕ) (list : List ℕ) (ls more : List (List ℕ)) (k : ℕ) → place_of from list ls ≡ Some k → place_of from list (ls ++ more) ≡ Some k
place_stays from list [] more k e = absurd cc
place_stays from list (l ∷ ls) more k e = by (bytes_eq list l) (place_stays (suc from) list ls more k) e
  where
    by : (b : Bool) → (place_of (suc from) list ls ≡ Some k → place_of (suc from) list (ls ++ more) ≡ Some k) → (if b then Some from else place_of (suc from) list ls) ≡ Some k → (if b then Some from else place_of (suc from) list (ls ++ more)) ≡ Some k
    by true h e = e
    by false h e = h e

place_at_end : (from : ℕ) (list : List ℕ) (ls : List (List ℕ)) → place_of from list ls ≡ None → place_of from list (ls ++ list ∷ []) ≡ Some (from + length ls)
place_at_end from list [] e =
    let same : bytes_eq list list ≡ true = (bytes_eq-Decides list list).1 refl in
    let z : from ≡ from + 0 = omega arith in
    rw same (ap Some z)
place_at_end from list (l ∷ ls) e = by (bytes_eq list l) (place_at_end (suc from) list ls) e
  where
    by : (b : Bool) → (place_of (suc from) list ls ≡ None → place_of (suc from) list (ls ++ list ∷ []) ≡ Some (suc from + length ls)) → (if b then Some from else place_of (suc from) list ls) ≡ None
        → (if b then Some from else place_of (suc from) list (ls ++ list ∷ [])) ≡ Some (from + length (l ∷ ls))
    by true h e = absurd cc
    by false h e = let z : suc from + length ls ≡ from + length (l ∷ ls) = omega arith in h e ∙ ap Some z

-- a list has a place among these
record IsKnown (list : List ℕ) (ls : List (List ℕ)) : Type 0 where
  place : ℕ
  there : place_of 0 list ls ≡ Some place
  below : place < length ls

known_here : (list : List ℕ) (ls : List (List ℕ)) → IsKnown list (with_list list ls)
known_here list ls = elim (place_cases 0 list ls) [
  | inl e ↦
      let long : length (ls ++ list ∷ []) ≡ length ls + 1 = length_push ls list in
      let known : IsKnown list (ls ++ list ∷ []) = record { place = 0 + length ls; there = place_at_end 0 list ls e; below = omega (arith, long) } in
      rw e known
  | inr w ↦
      let known : IsKnown list ls = record { place = w.0; there = w.1; below = let less : w.0 < 0 + length ls = w.2 in omega (arith, less) } in
      rw w.1 known
]

known_on : (list another : List ℕ) (ls : List (List ℕ)) → IsKnown list ls → IsKnown list (with_list another ls)
known_on list another ls k = elim (place_cases 0 another ls) [
  | inl e ↦
      let long : length (ls ++ another ∷ []) ≡ length ls + 1 = length_push ls another in
      let known : IsKnown list (ls ++ another ∷ []) = record { place = k.place; there = place_stays 0 list ls (another ∷ []) k.place k.there; below = let b : k.place < length ls = k.below in omega (arith, long, b) } in
      rw e known
  | inr w ↦ rw w.1 k
]

number_below : (list : List ℕ) (ls : List (List ℕ)) → IsKnown list ls → number_of list ls < length ls
number_below list ls k = rw k.there k.below

with_list_grows : (list : List ℕ) (ls : List (List ℕ)) → length ls ≤ length (with_list list ls)
with_list_grows list ls = elim (place_cases 0 list ls) [
  | inl e ↦ let long : length (ls ++ list ∷ []) ≡ length ls + 1 = length_push ls list in let le : length ls ≤ length (ls ++ list ∷ []) = omega (arith, long) in rw e le
  | inr w ↦ let le : length ls ≤ length ls = omega arith in rw w.1 le
]

number_is : (list : List ℕ) (ls : List (List ℕ)) → number_of list ls ≡ number_of list (with_list list ls)
number_is list ls = elim (place_cases 0 list ls) [
  | inl e ↦
      let n : number_of list ls ≡ length ls = rw e refl in
      let with_it : with_list list ls ≡ ls ++ list ∷ [] = rw e refl in
      let there : place_of 0 list (ls ++ list ∷ []) ≡ Some (0 + length ls) = place_at_end 0 list ls e in
      let m : number_of list (ls ++ list ∷ []) ≡ 0 + length ls = rw there refl in
      let z : length ls ≡ 0 + length ls = omega arith in
      n ∙ z ∙ sym m ∙ ap (number_of list) (sym with_it)
  | inr w ↦
      let with_it : with_list list ls ≡ ls = rw w.1 refl in
      ap (number_of list) (sym with_it)
]

-- the place at which it is found or put
number_within : (list : List ℕ) (ls : List (List ℕ)) → number_of list ls < length (with_list list ls)
number_within list ls = subst (λ (n : ℕ). n < length (with_list list ls)) (sym (number_is list ls)) (number_below list (with_list list ls) (known_here list ls))

rows_grow : (rows : List Row) (ls : List (List ℕ)) → length ls ≤ length (with_rows rows ls)
rows_grow [] ls = omega arith
rows_grow (r ∷ rs) ls = by (is_end r.on) (rows_grow rs ls) (rows_grow rs (with_list r.targets ls)) (with_list_grows r.targets ls)
  where
    by : (b : Bool) → length ls ≤ length (with_rows rs ls) → length (with_list r.targets ls) ≤ length (with_rows rs (with_list r.targets ls)) → length ls ≤ length (with_list r.targets ls)
        → length ls ≤ length (if b then with_rows rs ls else with_rows rs (with_list r.targets ls))
    by true h j k = h
    by false h j k = omega arith

known_rows : (list : List ℕ) (rows : List Row) (ls : List (List ℕ)) → IsKnown list ls → IsKnown list (with_rows rows ls)
known_rows list [] ls k = k
known_rows list (r ∷ rs) ls k = by (is_end r.on) (known_rows list rs ls k) (known_rows list rs (with_list r.targets ls) (known_on list r.targets ls k))
  where
    by : (b : Bool) → IsKnown list (with_rows rs ls) → IsKnown list (with_rows rs (with_list r.targets ls)) → IsKnown list (if b then with_rows rs ls else with_rows rs (with_list r.targets ls))
    by true h j = h
    by false h j = j

-- productions lead below so many
rules_below : (most own : ℕ) (rows : List Row) (ls : List (List ℕ)) → own < most → length (with_rows rows ls) ≤ most → All (λ r. r.to < most) (rules_from own rows ls)
rules_below most own [] ls less le = All-nil (λ (r : Rule). r.to < most)
rules_below most own (r ∷ rs) ls less le = by (is_end r.on) (rules_below most own rs ls less) (rules_below most own rs (with_list r.targets ls) less) (number_within r.targets ls) (rows_grow rs (with_list r.targets ls)) le
  where
    by : (b : Bool) → (length (with_rows rs ls) ≤ most → All (λ r. r.to < most) (rules_from own rs ls)) → (length (with_rows rs (with_list r.targets ls)) ≤ most → All (λ r. r.to < most) (rules_from own rs (with_list r.targets ls)))
        → number_of r.targets ls < length (with_list r.targets ls) → length (with_list r.targets ls) ≤ length (with_rows rs (with_list r.targets ls))
        → length (if b then with_rows rs ls else with_rows rs (with_list r.targets ls)) ≤ most
        → All (λ r. r.to < most) (if b then record { on = r.on; to = own; inner = r.inner } ∷ rules_from own rs ls else record { on = r.on; to = number_of r.targets ls; inner = r.inner } ∷ rules_from own rs (with_list r.targets ls))
    by true h j n g le = All-cons (λ (r : Rule). r.to < most) (record { on = r.on; to = own; inner = r.inner }) (rules_from own rs ls) less (h le)
    by false h j n g le = All-cons (λ (r : Rule). r.to < most) (record { on = r.on; to = number_of r.targets ls; inner = r.inner }) (rules_from own rs (with_list r.targets ls)) (omega arith) (j le)

-- ---- state by state
module _ (P : Symbol → Option ℕ → Type 0) where
  record IsWork (w : Work) : Type 0 where
    all : All (All (OfRule P)) w.states
    below : All (All (λ r. r.to < length w.lists)) w.states
    few : length w.states ≤ length w.lists
    some : 1 ≤ length w.lists

  below_more : (most more : ℕ) (states : List (List Rule)) → most ≤ more → All (All (λ r. r.to < most)) states → All (All (λ r. r.to < more)) states
  below_more most more states le h = All-weaker (All (λ (r : Rule). r.to < most)) (All (λ (r : Rule). r.to < more)) (λ state. All-weaker (λ (r : Rule). r.to < most) (λ (r : Rule). r.to < more) (λ r less. omega arith) state) states h

  next_is_work : (rows : List Row) (w : Work) → All (λ r. P r.on r.inner) rows → length w.states < length w.lists → IsWork w → IsWork (with_state rows w)
  next_is_work rows w a less h =
      let grow : length w.lists ≤ length (with_rows rows w.lists) = rows_grow rows w.lists in
      let long : length (w.states ++ rules_from (length w.states) rows w.lists ∷ []) ≡ length w.states + 1 = length_push w.states (rules_from (length w.states) rows w.lists) in
      let own : length w.states < length (with_rows rows w.lists) = omega (arith, grow, less) in
      let some : 1 ≤ length w.lists = h.some in
      record {
        all = All-push (All (OfRule P)) w.states (rules_from (length w.states) rows w.lists) h.all (rules_all P (length w.states) rows w.lists a);
        below =
            All-push (All (λ (r : Rule). r.to < length (with_rows rows w.lists))) w.states (rules_from (length w.states) rows w.lists)
            (below_more (length w.lists) (length (with_rows rows w.lists)) w.states grow h.below)
            (rules_below (length (with_rows rows w.lists)) (length w.states) rows w.lists own (le_refl (length (with_rows rows w.lists))));
        few = omega (arith, long, own);
        some = omega (arith, grow, some);
      }

  -- what goes on is not over
  on_less : (most : ℕ) (w : Work) → length w.states ≤ length w.lists → (ltb most (length w.lists) || (length w.states == length w.lists)) ≡ false → length w.states < length w.lists
  on_less most w le e =
      let differs : length w.states ≡ length w.lists → ⊥ = eqb-false (length w.states) (length w.lists) (or_parts (ltb most (length w.lists)) (length w.states == length w.lists) e).1 in
      elim (cases_lt (length w.states) (length w.lists)) [
        | inl less ↦ less
        | inr more ↦ absurd (differs (omega arith))
      ]

  worked_is : (states : States) (most n : ℕ) (w : Work) → OfStates P states → IsWork w → IsWork (worked states most n w)
  unfolding worked
  worked_is states most zero w s h = h
  worked_is states most (suc n) w s h = elim (cases_Bool (ltb most (length w.lists) || (length w.states == length w.lists))) [
    | inl e ↦ rw e h
    | inr e ↦
        let next = worked_is states most n (with_state (rows_of states (get_or w.lists (length w.states) [])) w) s
        (next_is_work (rows_of states (get_or w.lists (length w.states) [])) w (rows_of_all P states (get_or w.lists (length w.states) []) s) (on_less most w h.few e) h) in
        rw e next
  ]

  list_is_work : (list : List ℕ) (w : Work) → IsWork w → IsWork (with_one_list list w)
  list_is_work list w h =
      let grow : length w.lists ≤ length (with_list list w.lists) = with_list_grows list w.lists in
      let some : 1 ≤ length w.lists = h.some in
      let few : length w.states ≤ length w.lists = h.few in
      record {
        all = h.all;
        below = below_more (length w.lists) (length (with_list list w.lists)) w.states grow h.below;
        few = omega (arith, grow, few);
        some = omega (arith, grow, some);
      }

  before_is_work : (d : Draft) (most : ℕ) → OfStates P d.states → IsWork (with_one_list (d.content ∷ []) (reached_states d most))
  before_is_work d most s =
      let start : IsWork (record { lists = (0 ∷ []) ∷ []; states = []; differs = false }) = record {
        all = All-nil (All (OfRule P));
        below = All-nil (All (λ (r : Rule). r.to < 1));
        few = lit≤ tt;
        some = lit≤ tt;
      } in
      list_is_work (d.content ∷ []) (reached_states d most) (worked_is d.states most (suc most) (record { lists = (0 ∷ []) ∷ []; states = []; differs = false }) s start)

  all_is_work : (d : Draft) (most : ℕ) → OfStates P d.states → IsWork (all_states d most)
  all_is_work d most s = worked_is d.states most (suc most) (with_one_list (d.content ∷ []) (reached_states d most)) s (before_is_work d most s)

-- a list that is known stays so
known_worked : (list : List ℕ) (states : States) (most n : ℕ) (w : Work) → IsKnown list w.lists → IsKnown list (worked states most n w).lists
unfolding worked
known_worked list states most zero w k = k
known_worked list states most (suc n) w k = elim (cases_Bool (ltb most (length w.lists) || (length w.states == length w.lists))) [
  | inl e ↦ rw e k
  | inr e ↦
      let next = known_worked list states most n (with_state (rows_of states (get_or w.lists (length w.states) [])) w) (known_rows list (rows_of states (get_or w.lists (length w.states) [])) w.lists k) in
      rw e next
]

-- where there are not too many, all are done
worked_done : (states : States) (most n : ℕ) (w : Work) → length w.states ≤ length w.lists → most < n + length w.states → length (worked states most n w).lists ≤ most → length (worked states most n w).lists ≡ length (worked states most n w).states
unfolding worked
worked_done states most zero w few less = λ le. absurd (omega arith)
worked_done states most (suc n) w few less = elim (cases_Bool (ltb most (length w.lists) || (length w.states == length w.lists))) [
  | inl e ↦ rw e (λ le. elim (or_cases (ltb most (length w.lists)) (length w.states == length w.lists) e) [
    | inl many ↦ absurd (let a : most < length w.lists = ltb-true most (length w.lists) many in omega (arith, a))
    | inr same ↦ sym (eqb-true (length w.states) (length w.lists) same)
  ])
  | inr e ↦
      let rows = rows_of states (get_or w.lists (length w.states) []) in
      let long : length (w.states ++ rules_from (length w.states) rows w.lists ∷ []) ≡ length w.states + 1 = length_push w.states (rules_from (length w.states) rows w.lists) in
      let grow : length w.lists ≤ length (with_rows rows w.lists) = rows_grow rows w.lists in
      let more : length w.states < length w.lists = on_less (λ on inner. Unit {0}) most w few e in
      let a : length (with_state rows w).states ≤ length (with_state rows w).lists = omega (arith, long, grow, more) in
      let b : most < n + length (with_state rows w).states = omega (arith, long) in
      rw e (worked_done states most n (with_state rows w) a b)
]

-- ---- a normal grammar
pub record IsNormal (P : Symbol → Option ℕ → Type 0) (most : ℕ) (g : Rules) : Type 0 where
  pub some : 1 ≤ length g.states
  pub few : length g.states ≤ most
  pub within : LeadsWithin g
  pub all : AllIn (OfRule P) g

made_parts : (most content : ℕ) (w : Work) (g : Rules) → normal_made most content w ≡ Ok g → (length w.lists ≤ most) × (record { states = w.states; content = number_of (content ∷ []) w.lists } ≡ g)
made_parts most content w g e = by (ltb most (length w.lists)) (ltb-false most (length w.lists)) w.differs e
  where
    by : (b : Bool) → (b ≡ false → length w.lists ≤ most) → (c : Bool) → (if b then Err too_large else if c then Err differ else Ok (record { states = w.states; content = number_of (content ∷ []) w.lists })) ≡ Ok g
        → (length w.lists ≤ most) × (record { states = w.states; content = number_of (content ∷ []) w.lists } ≡ g)
    by true h c e = absurd cc
    by false h true e = absurd cc
    by false h false e = (h refl, cc)

pub normal_is : (P : Symbol → Option ℕ → Type 0) (d : Draft) (most : ℕ) (g : Rules) → OfStates P d.states → normal_of d most ≡ Ok g → IsNormal P most g
normal_is P d most g s e =
    let w = all_states d most in
    let parts = made_parts most d.content w g e in
    let few : length w.lists ≤ most = parts.0 in
    let work : IsWork P w = all_is_work P d most s in
    let first = reached_states d most in
    let before : Work = with_one_list (d.content ∷ []) first in
    let known : IsKnown (d.content ∷ []) w.lists = known_worked (d.content ∷ []) d.states most (suc most) before (known_here (d.content ∷ []) first.lists) in
    let few_before : length before.states ≤ length before.lists = (before_is_work P d most s).few in
    let done : length w.lists ≡ length w.states = worked_done d.states most (suc most) before few_before (omega arith) few in
    let some : 1 ≤ length w.lists = work.some in
    let normal : IsNormal P most (record { states = w.states; content = number_of (d.content ∷ []) w.lists }) = record {
      some = omega (arith, done, some);
      few = omega (arith, done, few);
      within = record {
        content = let b : number_of (d.content ∷ []) w.lists < length w.lists = number_below (d.content ∷ []) w.lists known in omega (arith, done, b);
        states = subst (λ (n : ℕ). All (All (λ (r : Rule). r.to < n)) w.states) done work.below;
      };
      all = work.all;
    } in
    subst (IsNormal P most) parts.1 normal
