-- Paths: what an element leads to within so many steps.
use Rattle.std.proofs.Common.{◌≡◌, ℕ, zero, suc, ◌+◌, ◌<◌, ◌≤◌, Bool, true, false, ◌||◌, Option, Some, None, inl, inr, List, [], ◌∷◌, length, refl, sym, ap, ◌∙◌, arith}
use Rattle.std.specs.Prelude.{◌==◌}
use Rattle.std.specs.List.{list_all, list_any, slice_get}
use Rattle.std.proofs.lemmas.Bool.{and_from, and_parts, cases_eq, cases_lt, eq-eqb, eqb-true, false≢true, ltb-true, ne_eqb, or_cases, true≢false}
use Rattle.std.proofs.lemmas.Option.{slice_get_past}
use Rattle.xsd_tree.specs.declared.node.Node.{Node}
use Rattle.xsd_paths.specs.Paths.{leads_to}
use Rattle.xsd_steps.specs.Steps.{steps}
use Rattle.xsd_circles.specs.Circles.{reaches, reaches_itself}
use Rattle.xsd_circles.specs.Levels.{NeverRise, are_under, is_so, is_under, level_at}

-- ---- tests
pub or_one : (x y : Bool) → x ≡ true → (x || y) ≡ true
or_one true y e = refl
or_one false y e = absurd (false≢true e)

pub or_last : (x y : Bool) → y ≡ true → (x || y) ≡ true
or_last true y e = refl
or_last false y e = e

pub or_none : (x y : Bool) → x ≡ false → y ≡ false → (x || y) ≡ false
or_none true y e h = absurd (true≢false e)
or_none false y e h = h

or_more : (x y z : Bool) → (y ≡ true → z ≡ true) → (x || y) ≡ true → (x || z) ≡ true
or_more true y z h e = refl
or_more false y z h e = h e

-- ---- the steps in a list
pub leads_more : (p q : ℕ → Bool) (ss : List (Option ℕ)) → ((k : ℕ) → p k ≡ true → q k ≡ true) → list_any (leads_to p) ss ≡ true → list_any (leads_to q) ss ≡ true
leads_more p q [] h e = absurd (false≢true e)
leads_more p q (None ∷ ss) h e = leads_more p q ss h e
leads_more p q (Some k ∷ ss) h e = elim (or_cases (p k) (list_any (leads_to p) ss) e) [
  | inl here ↦ or_one (q k) (list_any (leads_to q) ss) (h k here)
  | inr there ↦ or_last (q k) (list_any (leads_to q) ss) (leads_more p q ss h there)
]

pub none_leads : (p q : ℕ → Bool) (ss : List (Option ℕ)) → ((k : ℕ) → p k ≡ true → q k ≡ false) → list_all (is_so p) ss ≡ true → list_any (leads_to q) ss ≡ false
none_leads p q [] h e = refl
none_leads p q (None ∷ ss) h e = none_leads p q ss h e
none_leads p q (Some k ∷ ss) h e =
    let both = and_parts (p k) (list_all (is_so p) ss) e in
    or_none (q k) (list_any (leads_to q) ss) (h k both.0) (none_leads p q ss h both.1)

pub each_so : (p : ℕ → Bool) (ss : List (Option ℕ)) → ((k : ℕ) → list_any (leads_to (λ m. m == k)) ss ≡ true → p k ≡ true) → list_all (is_so p) ss ≡ true
each_so p [] h = refl
each_so p (None ∷ ss) h = each_so p ss (λ k e. h k e)
each_so p (Some i ∷ ss) h =
    and_from (p i) (list_all (is_so p) ss) (h i (or_one (i == i) (list_any (leads_to (λ m. m == i)) ss) (eq-eqb i i refl)))
    (each_so p ss (λ k e. h k (or_last (i == k) (list_any (leads_to (λ m. m == k)) ss) e)))

pub so_more : (p q : ℕ → Bool) (ss : List (Option ℕ)) → ((k : ℕ) → p k ≡ true → q k ≡ true) → list_all (is_so p) ss ≡ true → list_all (is_so q) ss ≡ true
so_more p q [] h e = refl
so_more p q (None ∷ ss) h e = so_more p q ss h e
so_more p q (Some k ∷ ss) h e =
    let both = and_parts (p k) (list_all (is_so p) ss) e in
    and_from (q k) (list_all (is_so q) ss) (h k both.0) (so_more p q ss h both.1)

-- ---- within more steps
abbrev pub comes_to : ℕ → List Node → ℕ → ℕ → Bool
comes_to c ns goal j = (j == goal) || reaches c ns goal j

pub reaches_more : (c : ℕ) (ns : List Node) (goal i : ℕ) → reaches c ns goal i ≡ true → reaches (suc c) ns goal i ≡ true
reaches_more zero ns goal i e = absurd (false≢true e)
reaches_more (suc c) ns goal i e = leads_more (comes_to c ns goal) (comes_to (suc c) ns goal) (steps ns i) (λ j h. or_more (j == goal) (reaches c ns goal j) (reaches (suc c) ns goal j) (λ r. reaches_more c ns goal j r) h) e

pub reaches_up : (d c : ℕ) (ns : List Node) (goal i : ℕ) → c ≤ d → reaches c ns goal i ≡ true → reaches d ns goal i ≡ true
reaches_up zero c ns goal i le e = let none : zero ≡ c = omega (arith, le) in ap (λ n. reaches n ns goal i) none ∙ e
reaches_up (suc d) c ns goal i le e = elim (cases_eq c (suc d)) [
  | inl same ↦ ap (λ n. reaches n ns goal i) (sym same) ∙ e
  | inr n ↦ reaches_more d ns goal i (reaches_up d c ns goal i (omega (arith, le, n)) e)
]

-- a step behind a path
pub one_step : (c : ℕ) (ns : List Node) (j k : ℕ) → list_any (leads_to (λ m. m == k)) (steps ns j) ≡ true → reaches (suc c) ns k j ≡ true
one_step c ns j k step = leads_more (λ m. m == k) (comes_to c ns k) (steps ns j) (λ m h. or_one (m == k) (reaches c ns k m) h) step

pub reaches_on : (c : ℕ) (ns : List Node) (j k i : ℕ) → reaches c ns j i ≡ true → list_any (leads_to (λ m. m == k)) (steps ns j) ≡ true → reaches (suc c) ns k i ≡ true
reaches_on zero ns j k i e step = absurd (false≢true e)
reaches_on (suc c) ns j k i e step = leads_more (comes_to c ns j) (comes_to (suc c) ns k) (steps ns i) (λ m h. or_last (m == k) (reaches (suc c) ns k m) (elim (or_cases (m == j) (reaches c ns j m) h) [
  | inl here ↦ ap (reaches (suc c) ns k) (eqb-true m j here) ∙ one_step c ns j k step
  | inr there ↦ reaches_on c ns j k m there step
])) e

-- the steps of an element, and of what it reaches
abbrev pub are_reached : List Node → ℕ → ℕ → List (Option ℕ) → Bool
are_reached ns c i ss = list_all (is_so (λ k. reaches c ns k i)) ss

pub first_reached : (ns : List Node) (i : ℕ) → are_reached ns 1 i (steps ns i) ≡ true
first_reached ns i = each_so (λ k. reaches 1 ns k i) (steps ns i) (λ k step. one_step 0 ns i k step)

pub next_reached : (c : ℕ) (ns : List Node) (j i : ℕ) → reaches c ns j i ≡ true → are_reached ns (suc c) i (steps ns j) ≡ true
next_reached c ns j i e = each_so (λ k. reaches (suc c) ns k i) (steps ns j) (λ k step. reaches_on c ns j k i e step)

-- ---- behind the elements
pub steps_past : (ns : List Node) (i : ℕ) → length ns ≤ i → steps ns i ≡ []
steps_past ns i le = let e : slice_get ns i ≡ None = slice_get_past ns i le in rw e refl

pub reaches_past : (c : ℕ) (ns : List Node) (goal i : ℕ) → length ns ≤ i → reaches c ns goal i ≡ false
reaches_past zero ns goal i le = refl
reaches_past (suc c) ns goal i le = ap (list_any (leads_to (comes_to c ns goal))) (steps_past ns i le)

-- ---- below its own level
rises_no : (ns : List Node) (levels : List ℕ) (j : ℕ) → NeverRise ns levels → are_under levels (level_at levels j + 1) (steps ns j) ≡ true
rises_no ns levels j h = elim (cases_lt j (length ns)) [
  | inl less ↦ h j less
  | inr le ↦ ap (are_under levels (level_at levels j + 1)) (steps_past ns j le)
]

apart : (levels : List ℕ) (i k : ℕ) → level_at levels k < level_at levels i → (k == i) ≡ false
apart levels i k less = ne_eqb k i (λ e. let same : level_at levels k ≡ level_at levels i = ap (level_at levels) e in omega (arith, same, less))

below_never : (c : ℕ) (ns : List Node) (levels : List ℕ) (i j : ℕ) → NeverRise ns levels → level_at levels j < level_at levels i → reaches c ns i j ≡ false
below_never zero ns levels i j h less = refl
below_never (suc c) ns levels i j h less = none_leads (is_under levels (level_at levels j + 1)) (comes_to c ns i) (steps ns j) (λ k under.
    let near : level_at levels k < level_at levels j + 1 = ltb-true (level_at levels k) (level_at levels j + 1) under in
    let far : level_at levels k < level_at levels i = omega (arith, near, less) in
    or_none (k == i) (reaches c ns i k) (apart levels i k far) (below_never c ns levels i k h far)) (rises_no ns levels j h)

never_back : (c : ℕ) (ns : List Node) (levels : List ℕ) (i : ℕ) → NeverRise ns levels → are_under levels (level_at levels i) (steps ns i) ≡ true → reaches c ns i i ≡ false
never_back zero ns levels i h e = refl
never_back (suc c) ns levels i h e = none_leads (is_under levels (level_at levels i)) (comes_to c ns i) (steps ns i) (λ k under.
    let less : level_at levels k < level_at levels i = ltb-true (level_at levels k) (level_at levels i) under in
    or_none (k == i) (reaches c ns i k) (apart levels i k less) (below_never c ns levels i k h less)) e

pub level_answer : (ns : List Node) (levels : List ℕ) (i : ℕ) → NeverRise ns levels → are_under levels (level_at levels i) (steps ns i) ≡ true → false ≡ reaches_itself ns i
unfolding reaches_itself
level_answer ns levels i h e = sym (never_back (length ns) ns levels i h e)

-- as the code comes to it
pub level_found : (ns self : List Node) (levels slice : List ℕ) (i bound : ℕ) (ss : List (Option ℕ)) (r : Bool) → ns ≡ self → NeverRise ns levels → slice ≡ levels → bound ≡ level_at slice i → ss ≡ steps ns i → r ≡ are_under slice bound ss → r ≡ true → false ≡ reaches_itself self i
level_found ns self levels slice i bound ss r ns_is rise slice_is bound_is ss_is r_is found =
    let under : are_under levels (level_at levels i) (steps ns i) ≡ true =
    ap (λ l. are_under l (level_at l i) (steps ns i)) (sym slice_is)
    ∙ ap (λ b. are_under slice b (steps ns i)) (sym bound_is)
    ∙ ap (are_under slice bound) (sym ss_is)
    ∙ sym r_is
    ∙ found in
    level_answer ns levels i rise under ∙ ap (λ x. reaches_itself x i) ns_is

pub rise_moved : (ns : List Node) (slice levels : List ℕ) → slice ≡ levels → NeverRise ns slice → NeverRise ns levels
rise_moved ns slice levels slice_is rise = λ i less. ap (λ l. are_under l (level_at l i + 1) (steps ns i)) (sym slice_is) ∙ rise i less

pub rise_here : (ns : List Node) (levels : List ℕ) (i place level : ℕ) (ss : List (Option ℕ)) (r : Bool) → i ≡ place → level ≡ level_at levels place → ss ≡ steps ns place → r ≡ are_under levels (level + 1) ss → r ≡ true → are_under levels (level_at levels i + 1) (steps ns i) ≡ true
rise_here ns levels i place level ss r same level_is ss_is r_is found =
    ap (λ x. are_under levels (level_at levels x + 1) (steps ns x)) same
    ∙ ap (λ b. are_under levels (b + 1) (steps ns place)) (sym level_is)
    ∙ ap (are_under levels (level + 1)) (sym ss_is)
    ∙ sym r_is
    ∙ found
