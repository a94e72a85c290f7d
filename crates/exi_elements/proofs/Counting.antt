-- A walk from all elements that stand for no other comes to all, and each is counted by what is behind it.
use Rattle.std.proofs.Common.{◌≡◌, ℕ, zero, suc, ◌+◌, ◌<◌, ◌≤◌, ◌==◌, Bool, true, false, Option, Some, None, inl, inr, List, [], ◌∷◌, All, drop, length, get_or, set, refl, sym, ap, ◌∙◌, subst, arith}
use Rattle.std.specs.List.{Contains, slice_get, sum_by}
use Rattle.std.specs.Option.{option_to_list}
use Rattle.std.proofs.lemmas.Bool.{cases_eq, ne_eqb}
use Rattle.std.proofs.lemmas.List.{drop_more, get_or-set_other, get_or-set_same}
use Rattle.std.proofs.lemmas.List.Elements.{All-cons, All-contains, All-head, All-same, All-tail, All-weaker}
use Rattle.exi_gram.specs.Laws.{places_from}
use Rattle.xsd_model.specs.declared.parts.ElementDecl.{ElementDecl}
use Rattle.xsd_model.specs.Parts.{IsBelow, IsElement, IsSchemaParts, Parts, all_end, head_in, heads_at}
use Rattle.exi_elements.specs.Members.{AreCounts, AreMembers, IsWalk, has_none, members, members_in, roots}
use Rattle.exi_elements.proofs.Totals.{one, times, times_there, total, total-sum_by}
use Rattle.exi_elements.proofs.Leading.{Heads, a_head, ends_next, heads_are, leads, no_head}
use Rattle.exi_elements.proofs.Walking.{count_step, led_count, times_walk}
use Rattle.exi_elements.proofs.Led.{always, count_is}

-- ---- a head is there
pub slot_there : {X : Type 0} (xs : List X) (i : ℕ) (x : X) → slice_get xs i ≡ Some x → (i < length xs) × (get_or xs i x ≡ x)
slot_there [] i x e = absurd cc
slot_there (y ∷ ys) zero x e = let f : y ≡ x = cc in (omega arith, f)
slot_there (y ∷ ys) (suc i) x e = let r = slot_there ys i x e in (omega (arith, r.0), r.1)

head_there : (n y : ℕ) (h : Option ℕ) → IsBelow n h → option_to_list h ≡ y ∷ [] → y < n
head_there n y None below e = absurd cc
head_there n y (Some z) below e = let f : z ≡ y = cc in omega (arith, below, f)

pub head_below : (p : Parts) → IsSchemaParts p → (x y : ℕ) → heads_at p x ≡ y ∷ [] → y < length p.elements
head_below p is x y e = by (slice_get p.elements x) refl e
  where
    by : (o : Option ElementDecl) → slice_get p.elements x ≡ o → head_in o ≡ y ∷ [] → y < length p.elements
    by None at e = absurd cc
    by (Some d) at e =
        let slot = slot_there p.elements x d at in
        let it : IsElement p d = subst (IsElement p) slot.1 (is.elements x d slot.0) in
        head_there (length p.elements) y d.head it.head_is e

-- ---- the walk comes to each element
covered_by : (p : Parts) (lists : List (List ℕ)) (order : List ℕ) (x : ℕ) → Heads (heads_at p x) → x < length p.elements → times x order ≡ times x (roots p) + total (λ y. times y order) (heads_at p x) → ((y : ℕ) → heads_at p x ≡ y ∷ [] → 0 < times y order) → 0 < times x order
covered_by p lists order x (no_head e) less step before =
    let root : times x (roots p) ≡ 1 = times_there (λ place. has_none (heads_at p place)) x 0 p.elements (omega arith) (omega (arith, less)) ∙ ap (λ l. one (has_none l)) e in
    omega (arith, root, step)
covered_by p lists order x (a_head y e) less step before =
    let up : total (λ y. times y order) (heads_at p x) ≡ times y order + 0 = ap (total (λ y. times y order)) e in
    let some = before y e in
    omega (arith, up, step, some)

covered_up : (p : Parts) (lists : List (List ℕ)) (order : List ℕ) → IsSchemaParts p → AreMembers p lists → IsWalk lists (roots p) order → (n x : ℕ) → all_end (heads_at p) n x ≡ true → x < length p.elements → 0 < times x order
covered_up p lists order schema are is zero x e less = absurd cc
covered_up p lists order schema are is (suc n) x e less =
    covered_by p lists order x (heads_are p x) less (times_walk p lists (roots p) order are is x)
    (λ y f. covered_up p lists order schema are is n y (ends_next p n x y f e) (head_below p schema x y f))

pub covered : (p : Parts) (lists : List (List ℕ)) (order : List ℕ) → IsSchemaParts p → AreMembers p lists → IsWalk lists (roots p) order → (x : ℕ) → x < length p.elements → 0 < times x order
covered p lists order schema are is x less = covered_up p lists order schema are is (length p.elements) x (schema.heads x less) less

-- ---- one more is counted
all_there : (P : ℕ → Type 0) (xs : List ℕ) → All P xs → (x : ℕ) → 0 < times x xs → P x
all_there P [] all x some = absurd (omega (arith, some))
all_there P (y ∷ ys) all x some = elim (cases_eq x y) [
  | inl e ↦ subst P (sym e) (All-head P y ys all)
  | inr n ↦
      let here : one (x == y) ≡ 0 = ap one (ne_eqb x y n) in
      all_there P ys (All-tail P y ys all) x (omega (arith, here, some))
]

total_all : (f g : ℕ → ℕ) (xs : List ℕ) → All (λ x. f x ≡ g x) xs → total f xs ≡ total g xs
total_all f g [] all = refl
total_all f g (x ∷ xs) all =
    let here : f x ≡ g x = All-head (λ x. f x ≡ g x) x xs all in
    let rest = total_all f g xs (All-tail (λ x. f x ≡ g x) x xs all) in
    omega (arith, here, rest)

abbrev pub IsCounted : Parts → List ℕ → ℕ → Type 0
IsCounted p counts place = get_or counts place 0 ≡ led_count p place

pub counted_by : (p : Parts) (lists : List (List ℕ)) (counts order : List ℕ) (i place : ℕ) → IsSchemaParts p → AreMembers p lists → IsWalk lists (roots p) order → All (IsCounted p counts) (drop (suc i) order) → i < length order → place ≡ get_or order i 0 → 1 + sum_by (λ m. get_or counts m 0) (members_in lists place) ≡ led_count p place
counted_by p lists counts order i place schema are is done less at =
    let inside : place < length lists = subst (λ z. z < length lists) (sym at) (is.below i 0 less) in
    let few = are.count in
    let there : place < length p.elements = omega (arith, inside, few) in
    let mine : members_in lists place ≡ members p place = are.each place there in
    let behind : All (Contains (drop (suc i) order)) (members_in lists place) = subst (λ z. All (Contains (drop (suc i) order)) (members_in lists z)) (sym at) (is.behind i less) in
    let counted : All (IsCounted p counts) (members_in lists place) = All-weaker (Contains (drop (suc i) order)) (IsCounted p counts) (λ m c. All-contains (IsCounted p counts) (drop (suc i) order) m done c) (members_in lists place) behind in
    let sums : sum_by (λ m. get_or counts m 0) (members_in lists place) ≡ total (led_count p) (members p place) =
    sym (total-sum_by (λ m. get_or counts m 0) (members_in lists place))
    ∙ total_all (λ m. get_or counts m 0) (led_count p) (members_in lists place) counted
    ∙ ap (total (led_count p)) mine in
    let step = count_step p (always p schema (omega (arith, there))) place there in
    omega (arith, sums, step)

set_counted : (p : Parts) (counts : List ℕ) (place : ℕ) → place < length counts → (x : ℕ) → IsCounted p counts x → IsCounted p (set counts place (led_count p place)) x
set_counted p counts place less x is = elim (cases_eq x place) [
  | inl e ↦ subst (IsCounted p (set counts place (led_count p place))) (sym e) (get_or-set_same counts place (led_count p place) 0 less)
  | inr n ↦ get_or-set_other counts place x (led_count p place) 0 n ∙ is
]

pub one_counted : (p : Parts) (counts order : List ℕ) (i place : ℕ) → place < length counts → i < length order → place ≡ get_or order i 0 → All (IsCounted p counts) (drop (suc i) order) → All (IsCounted p (set counts place (led_count p place))) (drop i order)
one_counted p counts order i place less inside at done =
    let next : i + 1 ≡ suc i = omega arith in
    All-same (IsCounted p (set counts place (led_count p place))) (drop i order) (place ∷ drop (suc i) order)
    (drop_more order i 0 inside ∙ ap (λ x. x ∷ drop (i + 1) order) (sym at) ∙ ap (λ n. place ∷ drop n order) next)
    (All-cons (IsCounted p (set counts place (led_count p place))) place (drop (suc i) order)
    (get_or-set_same counts place (led_count p place) 0 less)
    (All-weaker (IsCounted p counts) (IsCounted p (set counts place (led_count p place))) (set_counted p counts place less) (drop (suc i) order) done))

pub all_counted : (p : Parts) (lists : List (List ℕ)) (counts order : List ℕ) → IsSchemaParts p → AreMembers p lists → IsWalk lists (roots p) order → length counts ≡ length p.elements → All (IsCounted p counts) order → AreCounts p counts
all_counted p lists counts order schema are is count done = record {
  count = count;
  each = λ x less. all_there (IsCounted p counts) order done x (covered p lists order schema are is x less) ∙ sym (count_is p x);
}

-- ---- there are no more than elements
total_few : (f : ℕ → Bool) (xs : List ℕ) → total (λ x. one (f x)) xs ≤ length xs
total_few f [] = omega arith
total_few f (x ∷ xs) = by (f x) (total_few f xs)
  where
    by : (b : Bool) → total (λ x. one (f x)) xs ≤ length xs → one b + total (λ x. one (f x)) xs ≤ suc (length xs)
    by true le = omega (arith, le)
    by false le = omega (arith, le)

pub length_places : {X : Type 0} (n : ℕ) (xs : List X) → length (places_from n xs) ≡ length xs
length_places n [] = refl
length_places n (x ∷ xs) = ap suc (length_places (suc n) xs)

pub few_led : (p : Parts) (h : ℕ) → led_count p h ≤ length p.elements
few_led p h =
    let le = total_few (leads p h) (places_from 0 p.elements) in
    let e = length_places 0 p.elements in
    omega (arith, le, e)
