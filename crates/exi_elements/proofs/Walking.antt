-- A walk along the members, from one element on, comes to those that lead to it, and to each of them once.
use Rattle.std.proofs.Common.{◌≡◌, ℕ, suc, ◌+◌, ◌<◌, ◌==◌, Bool, true, false, ◌||◌, inl, inr, List, [], ◌∷◌, All, length, refl, sym, ap, ◌∙◌, subst, arith}
use Rattle.std.specs.List.{flat_map}
use Rattle.std.proofs.lemmas.Bool.{cases_lt}
use Rattle.std.proofs.lemmas.List.Elements.{All-head, All-tail}
use Rattle.exi_gram.specs.Laws.{places_from}
use Rattle.xsd_model.specs.Parts.{Parts, all_end, heads_at}
use Rattle.exi_elements.specs.StandIns.{any_of}
use Rattle.exi_elements.specs.Members.{AreMembers, IsWalk, is_member, members, members_in}
use Rattle.exi_elements.proofs.Totals.{one, one_place, times, times_behind, times_there, total, total-add, total-append, total-flat_map, total-same, total-swap}
use Rattle.exi_elements.proofs.Leading.{Heads, a_head, heads_are, leads, leads_step, no_head, no_heads, same_up}

-- ---- how often an element stands among the members of one
any_total : (h : ℕ) (l : List ℕ) → Heads l → one (any_of (λ y. y == h) l) ≡ total (λ y. one (y == h)) l
any_total h l (no_head e) = subst (λ l. one (any_of (λ y. y == h) l) ≡ total (λ y. one (y == h)) l) (sym e) refl
any_total h l (a_head y e) = subst (λ l. one (any_of (λ y. y == h) l) ≡ total (λ y. one (y == h)) l) (sym e) (by (y == h))
  where
    by : (b : Bool) → one (b || false) ≡ one b + 0
    by true = refl
    by false = refl

pub times_members : (p : Parts) (h x : ℕ) → times x (members p h) ≡ total (λ y. one (y == h)) (heads_at p x)
times_members p h x = elim (cases_lt x (length p.elements)) [
  | inl less ↦ times_there (is_member p h) x 0 p.elements (omega arith) (omega (arith, less)) ∙ any_total h (heads_at p x) (heads_are p x)
  | inr le ↦ times_behind (is_member p h) x 0 p.elements (omega (arith, le)) ∙ ap (total (λ y. one (y == h))) (sym (no_heads p x le))
]

-- ---- how often one stands in a walk
members_there : (p : Parts) (lists : List (List ℕ)) (x : ℕ) → AreMembers p lists → (walk : List ℕ) → All (λ place. place < length lists) walk → total (λ h. times x (members_in lists h)) walk ≡ total (λ h. total (λ y. one (y == h)) (heads_at p x)) walk
members_there p lists x are [] below = refl
members_there p lists x are (h ∷ hs) below =
    let less : h < length lists = All-head (λ place. place < length lists) h hs below in
    let few = are.count in
    let here : times x (members_in lists h) ≡ total (λ y. one (y == h)) (heads_at p x) = ap (times x) (are.each h (omega (arith, less, few))) ∙ times_members p h x in
    let rest = members_there p lists x are hs (All-tail (λ place. place < length lists) h hs below) in
    omega (arith, here, rest)

pub times_walk : (p : Parts) (lists : List (List ℕ)) (starts walk : List ℕ) → AreMembers p lists → IsWalk lists starts walk → (x : ℕ) → times x walk ≡ times x starts + total (λ y. times y walk) (heads_at p x)
times_walk p lists starts walk are is x =
    ap (times x) is.whole
    ∙ total-append (λ y. one (x == y)) starts (flat_map (members_in lists) walk)
    ∙ ap (λ n. times x starts + n) (
    total-flat_map (λ y. one (x == y)) (members_in lists) walk
    ∙ members_there p lists x are walk is.below
    ∙ total-swap (λ h y. one (y == h)) walk (heads_at p x))

pub times_led : (p : Parts) (lists : List (List ℕ)) (h : ℕ) (walk : List ℕ) → ((x : ℕ) → all_end (heads_at p) (length p.elements) x ≡ true) → AreMembers p lists → IsWalk lists (h ∷ []) walk → (x : ℕ) → times x walk ≡ one (leads p h x)
times_led p lists h walk end are is x =
    same_up p (length p.elements) (λ y. times y walk) (λ y. one (leads p h y)) (λ y. one (y == h))
    (λ y. times_walk p lists (h ∷ []) walk are is y ∙ ap (λ n. n + total (λ z. times z walk) (heads_at p y)) (plus (one (y == h))))
    (leads_step p end h) x (end x)
  where
    plus : (n : ℕ) → n + 0 ≡ n
    plus n = omega arith

-- ---- as many as its members, theirs and so on, and itself
abbrev members_led : Parts → ℕ → ℕ → ℕ
members_led p h x = total (λ m. one (leads p m x)) (members p h)

members_step : (p : Parts) → ((x : ℕ) → all_end (heads_at p) (length p.elements) x ≡ true) → (h x : ℕ) → members_led p h x ≡ total (λ y. one (y == h) + members_led p h y) (heads_at p x)
members_step p end h x =
    total-same (λ m. one (leads p m x)) (λ m. one (x == m) + total (λ y. one (leads p m y)) (heads_at p x)) (members p h) (λ m. leads_step p end m x)
    ∙ total-add (λ m. one (x == m)) (λ m. total (λ y. one (leads p m y)) (heads_at p x)) (members p h)
    ∙ ap (λ n. n + total (λ m. total (λ y. one (leads p m y)) (heads_at p x)) (members p h)) (times_members p h x)
    ∙ ap (λ n. total (λ y. one (y == h)) (heads_at p x) + n) (total-swap (λ m y. one (leads p m y)) (members p h) (heads_at p x))
    ∙ sym (total-add (λ y. one (y == h)) (members_led p h) (heads_at p x))

pub led_is : (p : Parts) → ((x : ℕ) → all_end (heads_at p) (length p.elements) x ≡ true) → (h x : ℕ) → one (leads p h x) ≡ one (x == h) + members_led p h x
led_is p end h x =
    same_up p (length p.elements) (λ y. one (leads p h y)) (λ y. one (y == h) + members_led p h y) (λ y. one (y == h))
    (leads_step p end h) (λ y. ap (λ n. one (y == h) + n) (members_step p end h y)) x (end x)

abbrev pub led_count : Parts → ℕ → ℕ
led_count p h = total (λ x. one (leads p h x)) (places_from 0 p.elements)

pub count_step : (p : Parts) → ((x : ℕ) → all_end (heads_at p) (length p.elements) x ≡ true) → (h : ℕ) → h < length p.elements → led_count p h ≡ suc (total (led_count p) (members p h))
count_step p end h less =
    let places = places_from 0 p.elements in
    total-same (λ x. one (leads p h x)) (λ x. one (x == h) + members_led p h x) places (led_is p end h)
    ∙ total-add (λ x. one (x == h)) (members_led p h) places
    ∙ ap (λ n. n + total (members_led p h) places) (one_place h 0 p.elements (omega arith) (omega (arith, less)))
    ∙ ap (λ n. 1 + n) (total-swap (λ x m. one (leads p m x)) places (members p h))
    ∙ after (total (led_count p) (members p h))
  where
    after : (n : ℕ) → 1 + n ≡ suc n
    after n = omega arith
