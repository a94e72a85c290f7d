-- Listing and marking elements, one after another.
use Rattle.std.proofs.Common.{◌≡◌, ℕ, zero, suc, ◌+◌, ◌*◌, ◌<◌, ◌≤◌, ltb, Bool, true, false, ◌&&◌, ◌||◌, not, cond, inl, inr, List, [], ◌∷◌, ◌++◌, get_or, length, set, take, refl, sym, ap, ◌∙◌, arith}
use Rattle.std.specs.List.{count_by, list_all}
use Rattle.std.proofs.Math.ListN.{replicate}
use Rattle.std.proofs.lemmas.Bool.{and_from, and_parts, cases_eq, eq-eqb, false≢true, lt-ltb, ltb-false, ltb-true, ne_eqb, not-true}
use Rattle.std.proofs.lemmas.Grind.{get_or-set_at}
use Rattle.std.proofs.lemmas.List.{get_or-set_other, get_or_append_left, get_or_push, length-append, length-replicate, length-set, take-append-le, take_all}
use Rattle.std.proofs.lemmas.List.Folds.{sum_by-replicate}
use Rattle.std.proofs.lemmas.List.Sums.{sum_by-set}
use Rattle.xsd_tree.specs.declared.node.Node.{Node}
use Rattle.xsd_steps.specs.Steps.{steps}
use Rattle.xsd_paths.specs.Paths.{IsOrder, is_in, is_whole, is_whole_within, leads_to}
use Rattle.xsd_paths.specs.Marks.{AreKnown, AreSettled, AreWhole, is_due, is_marked, is_ready, listed, marked}
use Rattle.xsd_paths.proofs.Within.{all_lead, is_within}
use Rattle.xsd_paths.proofs.Orders.{at_whole, is_in_push, place_in}
use Rattle.xsd_paths.proofs.There.{all_lead_below, steps_below, whole_behind}

-- ---- one that is due
pub due_parts : (ns : List Node) (marks : List Bool) (i : ℕ) → is_due ns marks i ≡ true → (i < length marks) × (is_marked marks i ≡ false) × (is_ready ns marks i ≡ true)
unfolding is_due
due_parts ns marks i e =
    let outer = and_parts (ltb i (length marks)) (not (is_marked marks i) && is_ready ns marks i) e in
    let inner = and_parts (not (is_marked marks i)) (is_ready ns marks i) outer.1 in
    (ltb-true i (length marks) outer.0, not-true (is_marked marks i) inner.0, inner.1)

pub is_due_by : (ns : List Node) (marks : List Bool) (i : ℕ) → i < length marks → is_marked marks i ≡ false → is_ready ns marks i ≡ true → is_due ns marks i ≡ true
unfolding is_due
is_due_by ns marks i less e f =
    and_from (ltb i (length marks)) (not (is_marked marks i) && is_ready ns marks i) (lt-ltb i (length marks) less) (and_from (not (is_marked marks i)) (is_ready ns marks i) (ap not e) f)

-- ---- one mark more
abbrev one_unmarked : Bool → ℕ
one_unmarked b = cond (not b) 1 0

pub fewer : (marks : List Bool) (i : ℕ) → i < length marks → is_marked marks i ≡ false → count_by not (set marks i true) + 1 ≡ count_by not marks
fewer marks i less e =
    let swap : count_by not (set marks i true) + one_unmarked (is_marked marks i) ≡ count_by not marks + 0 = sum_by-set one_unmarked marks i true false less in
    let one : one_unmarked (is_marked marks i) ≡ 1 = ap one_unmarked e in
    omega (arith, swap, one)

pub each_more : (order : List ℕ) (marks : List Bool) (i : ℕ) → i < length marks → ((j : ℕ) → is_marked marks j ≡ is_in order j) → (j : ℕ) → is_marked (set marks i true) j ≡ is_in (order ++ i ∷ []) j
each_more order marks i less each j = elim (cases_eq j i) [
  | inl e ↦ get_or-set_at marks i j true false e less ∙ sym (is_in_push order i j ∙ ap (λ b. is_in order j || (b || false)) (eq-eqb j i e) ∙ or_true (is_in order j))
  | inr n ↦ get_or-set_other marks i j true false n ∙ each j ∙ sym (is_in_push order i j ∙ ap (λ b. is_in order j || (b || false)) (ne_eqb j i n) ∙ or_false (is_in order j))
]
  where
    or_true : (b : Bool) → (b || true) ≡ true
    or_true true = refl
    or_true false = refl

    or_false : (b : Bool) → (b || false) ≡ b
    or_false true = refl
    or_false false = refl

pub ready_in : (ns : List Node) (order : List ℕ) (marks : List Bool) (i : ℕ) → ((j : ℕ) → is_marked marks j ≡ is_in order j) → is_ready ns marks i ≡ true → list_all (leads_to (is_in order)) (steps ns i) ≡ true
unfolding is_ready
ready_in ns order marks i each e = all_lead (is_marked marks) (is_in order) (steps ns i) (λ j f. sym (each j) ∙ f) e

abbrev pub IsBehind : List Node → List ℕ → ℕ → Type 0
IsBehind ns order k = list_all (leads_to (is_in (take k order))) (steps ns (get_or order k 0)) ≡ true

pub behind_more : (ns : List Node) (order : List ℕ) (i : ℕ) → list_all (leads_to (is_in order)) (steps ns i) ≡ true → ((k : ℕ) → k < length order → IsBehind ns order k) → (k : ℕ) → k < length order + 1 → IsBehind ns (order ++ i ∷ []) k
behind_more ns order i here before k less = elim (cases_eq k (length order)) [
  | inl e ↦
      let front : take k (order ++ i ∷ []) ≡ order = take-append-le k order (i ∷ []) (omega (arith, e)) ∙ take_all k order (omega (arith, e)) in
      let last : get_or (order ++ i ∷ []) k 0 ≡ i = get_or_push order i 0 k (sym e) in
      ap (λ (l : List ℕ). list_all (leads_to (is_in l)) (steps ns (get_or (order ++ i ∷ []) k 0))) front
      ∙ ap (λ (j : ℕ). list_all (leads_to (is_in order)) (steps ns j)) last
      ∙ here
  | inr n ↦
      let earlier : k < length order = omega (arith, n, less) in
      let front : take k (order ++ i ∷ []) ≡ take k order = take-append-le k order (i ∷ []) (omega (arith, earlier)) in
      let same : get_or (order ++ i ∷ []) k 0 ≡ get_or order k 0 = get_or_append_left order (i ∷ []) 0 k earlier in
      ap (λ (l : List ℕ). list_all (leads_to (is_in l)) (steps ns (get_or (order ++ i ∷ []) k 0))) front
      ∙ ap (λ (j : ℕ). list_all (leads_to (is_in (take k order))) (steps ns j)) same
      ∙ before k earlier
]

pub there_more : (order : List ℕ) (i n : ℕ) → i < n → ((k : ℕ) → k < length order → get_or order k 0 < n) → (k : ℕ) → k < length order + 1 → get_or (order ++ i ∷ []) k 0 < n
there_more order i n inside there k less = elim (cases_eq k (length order)) [
  | inl e ↦ let last : get_or (order ++ i ∷ []) k 0 ≡ i = get_or_push order i 0 k (sym e) in omega (arith, last, inside)
  | inr m ↦
      let earlier : k < length order = omega (arith, m, less) in
      let same : get_or (order ++ i ∷ []) k 0 ≡ get_or order k 0 = get_or_append_left order (i ∷ []) 0 k earlier in
      omega (arith, same, there k earlier)
]

pub known_more : (ns : List Node) (order : List ℕ) (marks : List Bool) (i : ℕ) → AreKnown ns order marks → is_due ns marks i ≡ true → AreKnown ns (order ++ i ∷ []) (set marks i true)
known_more ns order marks i h due =
    let parts = due_parts ns marks i due in
    let inside : i < length marks = parts.0 in
    let here : list_all (leads_to (is_in order)) (steps ns i) ≡ true = ready_in ns order marks i h.each parts.2 in
    let longer : length (order ++ i ∷ []) ≡ length order + 1 = length-append order (i ∷ []) in
    let less : count_by not (set marks i true) + 1 ≡ count_by not marks = fewer marks i inside parts.1 in record {
      count = length-set marks i true ∙ h.count;
      few = omega (arith, longer, less, h.few);
      there = λ k f. there_more order i (length ns) (omega (arith, inside, h.count)) h.there k (omega (arith, longer, f));
      before = λ k f. behind_more ns order i here h.before k (omega (arith, longer, f));
      each = each_more order marks i inside h.each;
    }

-- ---- behind a look at one
pub known_next : (ns : List Node) (order : List ℕ) (marks : List Bool) (i : ℕ) → AreKnown ns order marks → AreKnown ns (listed ns marks i order) (marked ns marks i)
known_next ns order marks i h = by_due (is_due ns marks i) (λ e. known_more ns order marks i h e)
  where
    by_due : (b : Bool) → (b ≡ true → AreKnown ns (order ++ i ∷ []) (set marks i true)) → AreKnown ns (cond b (order ++ i ∷ []) order) (cond b (set marks i true) marks)
    by_due true more = more refl
    by_due false more = h

pub longer_next : (ns : List Node) (order : List ℕ) (marks : List Bool) (i : ℕ) → length order ≤ length (listed ns marks i order)
longer_next ns order marks i = by_due (is_due ns marks i)
  where
    by_due : (b : Bool) → length order ≤ length (cond b (order ++ i ∷ []) order)
    by_due true = let e : length (order ++ i ∷ []) ≡ length order + 1 = length-append order (i ∷ []) in omega (arith, e)
    by_due false = omega arith

-- where nothing was listed, it is not due, and the marks are the same
pub same_next : (ns : List Node) (order : List ℕ) (marks : List Bool) (i : ℕ) → length (listed ns marks i order) ≡ length order → (is_due ns marks i ≡ false) × (marked ns marks i ≡ marks)
same_next ns order marks i = by_due (is_due ns marks i)
  where
    by_due : (b : Bool) → length (cond b (order ++ i ∷ []) order) ≡ length order → (b ≡ false) × (cond b (set marks i true) marks ≡ marks)
    by_due true e = let f : length (order ++ i ∷ []) ≡ length order + 1 = length-append order (i ∷ []) in absurd (omega (arith, e, f))
    by_due false e = (refl, refl)

pub settled_next : (ns : List Node) (order : List ℕ) (marks : List Bool) (n first : ℕ) → first ≤ length order → (length order ≡ first → AreSettled n ns marks) → length (listed ns marks n order) ≡ first → AreSettled (n + 1) ns (marked ns marks n)
settled_next ns order marks n first le before e i less =
    let longer : length order ≤ length (listed ns marks n order) = longer_next ns order marks n in
    let same = same_next ns order marks n (omega (arith, longer, le, e)) in
    ap (λ (l : List Bool). is_due ns l i) same.1 ∙ elim (cases_eq i n) [
      | inl f ↦ ap (is_due ns marks) f ∙ same.0
      | inr m ↦ before (omega (arith, longer, le, e)) i (omega (arith, m, less))
    ]

-- ---- at the start
pub known_none : (ns : List Node) (n : ℕ) → n ≡ length ns → AreKnown ns [] (replicate n false)
known_none ns n e = record {
  count = length-replicate n false ∙ e;
  few = let f : count_by not (replicate n false) ≡ n * 1 = sum_by-replicate one_unmarked n false in omega (arith, e, f);
  there = λ k less. absurd (omega arith);
  before = λ k less. absurd (omega arith);
  each = λ i. none_marked n i;
}
  where
    none_marked : (n i : ℕ) → is_marked (replicate n false) i ≡ false
    none_marked zero i = refl
    none_marked (suc n) zero = refl
    none_marked (suc n) (suc i) = none_marked n i

-- ---- at the end
not_false : (b : Bool) → (b ≡ false → ⊥) → b ≡ true
not_false true h = refl
not_false false h = absurd (h refl)

same_bool : (a b : Bool) → (a ≡ true → b ≡ true) → (b ≡ true → a ≡ true) → a ≡ b
same_bool true b h g = sym (h refl)
same_bool false true h g = g refl
same_bool false false h g = refl

ready_by : (ns : List Node) (marks : List Bool) (i : ℕ) → list_all (leads_to (is_marked marks)) (steps ns i) ≡ true → is_ready ns marks i ≡ true
unfolding is_ready
ready_by ns marks i e = e

module _ (ns : List Node) (marks : List Bool) (count : length marks ≡ length ns) (settled : AreSettled (length ns) ns marks) where
  marked_by_ready : (i : ℕ) → i < length ns → is_ready ns marks i ≡ true → is_marked marks i ≡ true
  marked_by_ready i less ready = not_false (is_marked marks i) (λ no. false≢true (sym (settled i less) ∙ is_due_by ns marks i (omega (arith, less, count)) no ready))

  marked_within : (n i : ℕ) → i < length ns → is_whole_within n ns i ≡ true → is_marked marks i ≡ true
  marked_within zero i less e = absurd (false≢true e)
  marked_within (suc n) i less e = marked_by_ready i less (ready_by ns marks i (all_lead_below (length ns) (is_whole_within n ns) (is_marked marks) (steps ns i) (steps_below ns i) (λ j. marked_within n j) e))

pub marked_whole : (ns : List Node) (order : List ℕ) (marks : List Bool) (i : ℕ) → AreKnown ns order marks → length order ≤ length ns → is_marked marks i ≡ true → is_whole ns i ≡ true
marked_whole ns order marks i h few e = let r = place_in order i (sym (h.each i) ∙ e) in ap (is_whole ns) (sym r.2) ∙ at_whole ns order r.0 few h.before r.1

pub known_all : (ns : List Node) (order : List ℕ) (marks : List Bool) → AreKnown ns order marks → AreSettled (length ns) ns marks → IsOrder ns order × AreWhole ns marks
known_all ns order marks h settled =
    let few : length order ≤ length ns = omega (arith, h.few) in
    let whole : (i : ℕ) → i < length ns → is_whole ns i ≡ true → is_marked marks i ≡ true = λ i less e. marked_within ns marks h.count settled (suc (length ns)) i less (is_within ns i e) in
    (record { few = few; there = h.there; before = h.before; all = λ i less e. sym (h.each i) ∙ whole i less e }, record { count = h.count; each = λ i less. same_bool (is_marked marks i) (is_whole ns i) (marked_whole ns order marks i h few) (whole i less) })

-- ---- for the loops
pub known_after : (ns : List Node) (order new_order : List ℕ) (marks new_marks : List Bool) (i : ℕ) → new_order ≡ listed ns marks i order → new_marks ≡ marked ns marks i → AreKnown ns order marks → AreKnown ns new_order new_marks
known_after ns order new_order marks new_marks i e f h = rw (e, f) (known_next ns order marks i h)

pub longer_after : (ns : List Node) (order new_order : List ℕ) (marks : List Bool) (i first : ℕ) → new_order ≡ listed ns marks i order → first ≤ length order → first ≤ length new_order
longer_after ns order new_order marks i first e le = let longer : length order ≤ length (listed ns marks i order) = longer_next ns order marks i in omega (arith, longer, ap length e, le)

pub settled_after : (ns : List Node) (order new_order : List ℕ) (marks new_marks : List Bool) (n first : ℕ) → new_order ≡ listed ns marks n order → new_marks ≡ marked ns marks n → first ≤ length order → (length order ≡ first → AreSettled n ns marks) → length new_order ≡ first → AreSettled (n + 1) ns new_marks
settled_after ns order new_order marks new_marks n first e f le before same = rw f (settled_next ns order marks n first le before (sym (ap length e) ∙ same))

pub known_start : (ns : List Node) (order : List ℕ) (marks : List Bool) (n : ℕ) → order ≡ [] → marks ≡ replicate n false → n ≡ length ns → AreKnown ns order marks
known_start ns order marks n e f g = rw (e, f) (known_none ns n g)

-- ---- behind the elements
pub none_there : (ns now : List Node) (marks items : List Bool) (i : ℕ) → AreWhole ns marks → items ≡ marks → ns ≡ now → false ≡ ltb i (length items) → true ≡ is_whole now i
none_there ns now marks items i h items_are e outside =
    let behind : length items ≤ i = ltb-false i (length items) (sym outside) in
    sym (whole_behind now i (omega (arith, behind, ap length items_are, h.count, ap length e)))
