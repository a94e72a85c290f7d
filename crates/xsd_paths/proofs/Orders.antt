-- Going through the elements whose paths end, each behind all that its steps lead to.
use Rattle.std.proofs.Common.{◌≡◌, ℕ, zero, suc, ◌+◌, ◌<◌, ◌≤◌, eqb, true, false, ◌||◌, ◌⊎◌, Some, None, inl, inr, List, [], ◌∷◌, ◌++◌, get_or, length, set, take, refl, sym, ap, ◌∙◌, arith}
use Rattle.std.specs.List.{list_all}
use Rattle.std.proofs.lemmas.Bool.{cases_eq, eq-eqb, eqb-true, false≢true, or_cases, or_left, or_right}
use Rattle.std.proofs.lemmas.Grind.{get_or-set_at}
use Rattle.std.proofs.lemmas.List.{get_or-set_other, get_or-take, length-take, take_more}
use Rattle.std.proofs.lemmas.List.Folds.{list_any-append}
use Rattle.xsd_tree.specs.declared.node.Node.{Node}
use Rattle.xsd_steps.specs.Steps.{steps}
use Rattle.xsd_paths.specs.Paths.{IsOrder, is_in, is_whole, is_whole_within, leads_to}
use Rattle.xsd_paths.proofs.Within.{all_lead, each_leads, one_leads, whole_within}

-- ---- in a list
pub not_in_none : (i : ℕ) → is_in [] i ≡ false
not_in_none i = refl

pub is_in_push : (xs : List ℕ) (x i : ℕ) → is_in (xs ++ x ∷ []) i ≡ (is_in xs i || (eqb i x || false))
is_in_push xs x i = list_any-append (eqb i) xs (x ∷ [])

pub in_push : (xs : List ℕ) (x i : ℕ) → is_in (xs ++ x ∷ []) i ≡ true → (is_in xs i ≡ true) ⊎ (i ≡ x)
in_push xs x i e = elim (or_cases (is_in xs i) (eqb i x || false) (sym (is_in_push xs x i) ∙ e)) [
  | inl f ↦ inl f
  | inr f ↦ elim (or_cases (eqb i x) false f) [ inl g ↦ inr (eqb-true i x g) | inr g ↦ absurd (false≢true g) ]
]

-- the place at which an item stands
pub place_in : (xs : List ℕ) (i : ℕ) → is_in xs i ≡ true → (p : ℕ) × (p < length xs) × (get_or xs p 0 ≡ i)
place_in [] i e = absurd (false≢true e)
place_in (x ∷ xs) i e = elim (or_cases (eqb i x) (is_in xs i) e) [
  | inl f ↦ (0, omega arith, sym (eqb-true i x f))
  | inr f ↦ let r = place_in xs i f in (suc r.0, omega arith, r.2)
]

pub in_at : (xs : List ℕ) (p : ℕ) → p < length xs → is_in xs (get_or xs p 0) ≡ true
in_at [] p less = absurd (omega arith)
in_at (x ∷ xs) zero less = or_left (eqb x x) (is_in xs x) (eq-eqb x x refl)
in_at (x ∷ xs) (suc p) less = or_right (eqb (get_or xs p 0) x) (is_in xs (get_or xs p 0)) (in_at xs p (omega arith))

-- ... and among the first
pub place_among : (xs : List ℕ) (k i : ℕ) → is_in (take k xs) i ≡ true → (p : ℕ) × (p < k) × (p < length xs) × (get_or xs p 0 ≡ i)
place_among xs k i e =
    let r = place_in (take k xs) i e in
    let less : r.0 < k = omega (arith, length-take k xs, r.1) in
    let inside : r.0 < length xs = omega (arith, length-take k xs, r.1) in
    (r.0, less, inside, sym (get_or-take k xs r.0 0 less) ∙ r.2)

pub in_more : (xs : List ℕ) (k i : ℕ) → k < length xs → is_in (take (k + 1) xs) i ≡ true → (is_in (take k xs) i ≡ true) ⊎ (i ≡ get_or xs k 0)
in_more xs k i less e = in_push (take k xs) (get_or xs k 0) i (sym (ap (λ (l : List ℕ). is_in l i) (take_more xs k 0 less)) ∙ e)

-- ---- the steps of one lead to those before it
pub step_before : (ns : List Node) (order : List ℕ) (k s j : ℕ) → IsOrder ns order → k < length order → get_or (steps ns (get_or order k 0)) s None ≡ Some j → is_in (take k order) j ≡ true
step_before ns order k s j h less e = one_leads (is_in (take k order)) (steps ns (get_or order k 0)) s j (h.before k less) e

pub step_place : (ns : List Node) (order : List ℕ) (k s j : ℕ) → IsOrder ns order → k < length order → get_or (steps ns (get_or order k 0)) s None ≡ Some j → (p : ℕ) × (p < k) × (p < length order) × (get_or order p 0 ≡ j)
step_place ns order k s j h less e = place_among order k j (step_before ns order k s j h less e)

pub step_there : (ns : List Node) (order : List ℕ) (k s : ℕ) → IsOrder ns order → k < length order → s < length (steps ns (get_or order k 0)) → (j : ℕ) × (get_or (steps ns (get_or order k 0)) s None ≡ Some j) × (is_in (take k order) j ≡ true)
step_there ns order k s h less inside = each_leads (is_in (take k order)) (steps ns (get_or order k 0)) s inside (h.before k less)

-- ---- those that stand there
pub order_within : (ns : List Node) (order : List ℕ) → ((k : ℕ) → k < length order → list_all (leads_to (is_in (take k order))) (steps ns (get_or order k 0)) ≡ true) → (n k : ℕ) → k < n → k < length order → is_whole_within n ns (get_or order k 0) ≡ true
order_within ns order before zero k less inside = absurd (omega arith)
order_within ns order before (suc n) k less inside =
    all_lead (is_in (take k order)) (is_whole_within n ns) (steps ns (get_or order k 0)) (λ j e. let r = place_among order k j e in ap (is_whole_within n ns) (sym r.3) ∙ order_within ns order before n r.0 (omega arith) r.2) (before k inside)

pub at_whole : (ns : List Node) (order : List ℕ) (k : ℕ) → length order ≤ length ns → ((k : ℕ) → k < length order → list_all (leads_to (is_in (take k order))) (steps ns (get_or order k 0)) ≡ true) → k < length order → is_whole ns (get_or order k 0) ≡ true
at_whole ns order k few before less = whole_within (suc k) ns (get_or order k 0) (omega arith) (order_within ns order before (suc k) k (omega arith) less)

pub in_whole : (ns : List Node) (order : List ℕ) (i : ℕ) → IsOrder ns order → is_in order i ≡ true → is_whole ns i ≡ true
in_whole ns order i h e = let r = place_in order i e in ap (is_whole ns) (sym r.2) ∙ at_whole ns order r.0 h.few h.before r.1

-- ---- a table by place, with an entry for each of those that were gone through
pub entries_none : {A : Type 0} (order : List ℕ) (table : List A) (d : A) (entry : ℕ → A) (i : ℕ) → is_in (take 0 order) i ≡ true → get_or table i d ≡ entry i
entries_none order table d entry i e = absurd (false≢true e)

pub entries_more : {A : Type 0} (order : List ℕ) (table new : List A) (d : A) (entry : ℕ → A) (k : ℕ) (x : A) → k < length order → get_or order k 0 < length table → new ≡ set table (get_or order k 0) x → x ≡ entry (get_or order k 0) → ((i : ℕ) → is_in (take k order) i ≡ true → get_or table i d ≡ entry i) → (i : ℕ) → is_in (take (k + 1) order) i ≡ true → get_or new i d ≡ entry i
entries_more order table new d entry k x less inside new_is x_is each i e = ap (λ (l : List _). get_or l i d) new_is ∙ elim (cases_eq i (get_or order k 0)) [
  | inl f ↦ get_or-set_at table (get_or order k 0) i x d f inside ∙ x_is ∙ ap entry (sym f)
  | inr n ↦ get_or-set_other table (get_or order k 0) i x d n ∙ elim (in_more order k i less e) [ inl g ↦ each i g | inr g ↦ absurd (n g) ]
]
