-- No element reaches itself along the heads, so one step more or less along them makes no difference.
use Rattle.std.proofs.Common.{◌≡◌, ℕ, zero, suc, ◌+◌, ◌<◌, ◌≤◌, ◌==◌, Bool, true, false, ◌||◌, Option, Some, None, inl, inr, List, [], ◌∷◌, length, refl, sym, ap, ◌∙◌, subst, arith}
use Rattle.std.specs.List.{list_all, slice_get}
use Rattle.std.specs.Option.{option_to_list}
use Rattle.std.proofs.lemmas.Bool.{and_parts, cases_lt, eqb-true, false≢true, or_cases}
use Rattle.xsd_model.specs.declared.parts.ElementDecl.{ElementDecl}
use Rattle.xsd_model.specs.Parts.{AllEnd, Parts, all_end, head_in, heads_at}
use Rattle.exi_elements.specs.StandIns.{any_of, leads_to}
use Rattle.exi_elements.proofs.Totals.{one, total, total-pass}

-- ---- an element has one head at most
pub data Heads (l : List ℕ) : Type 0 where
  no_head : l ≡ [] → Heads l
  a_head : (y : ℕ) → l ≡ y ∷ [] → Heads l

pub heads_are : (p : Parts) (x : ℕ) → Heads (heads_at p x)
heads_are p x = of_element (slice_get p.elements x)
  where
    of_head : (h : Option ℕ) → Heads (option_to_list h)
    of_head None = no_head refl
    of_head (Some y) = a_head y refl

    of_element : (o : Option ElementDecl) → Heads (head_in o)
    of_element None = no_head refl
    of_element (Some e) = of_head e.head

slice_past : {X : Type 0} (xs : List X) (i : ℕ) → length xs ≤ i → slice_get xs i ≡ None
slice_past [] i le = refl
slice_past (x ∷ xs) zero le = absurd (omega (arith, le))
slice_past (x ∷ xs) (suc i) le = slice_past xs i (omega (arith, le))

pub no_heads : (p : Parts) (x : ℕ) → length p.elements ≤ x → heads_at p x ≡ []
no_heads p x le = ap head_in (slice_past p.elements x le)

-- each path along the heads ends
past : (p : Parts) (n x : ℕ) → 0 < n → heads_at p x ≡ [] → all_end (heads_at p) n x ≡ true
past p zero x less e = absurd (omega (arith, less))
past p (suc n) x less e = ap (list_all (all_end (heads_at p) n)) e

pub ends : (p : Parts) → AllEnd (heads_at p) (length p.elements) → 0 < length p.elements → (x : ℕ) → all_end (heads_at p) (length p.elements) x ≡ true
ends p all some x = elim (cases_lt x (length p.elements)) [
  | inl less ↦ all x less
  | inr le ↦ past p (length p.elements) x some (no_heads p x le)
]

-- ---- more steps lead no further
any_agree : (f g test : ℕ → Bool) (xs : List ℕ) → ((y : ℕ) → test y ≡ true → f y ≡ g y) → list_all test xs ≡ true → any_of f xs ≡ any_of g xs
any_agree f g test [] e all = refl
any_agree f g test (x ∷ xs) e all =
    let both = and_parts (test x) (list_all test xs) all in
    ap (λ b. b || any_of f xs) (e x both.0) ∙ ap (λ b. g x || b) (any_agree f g test xs e both.1)

pub lead_alike : (n m k : ℕ) (p : Parts) (h x : ℕ) → all_end (heads_at p) n x ≡ true → n ≤ m → n ≤ k → leads_to m p h x ≡ leads_to k p h x
lead_alike zero m k p h x e le also = absurd (false≢true e)
lead_alike (suc n) zero k p h x e le also = absurd (omega (arith, le))
lead_alike (suc n) (suc m) zero p h x e le also = absurd (omega (arith, also))
lead_alike (suc n) (suc m) (suc k) p h x e le also =
    ap (λ b. (x == h) || b) (any_agree (leads_to m p h) (leads_to k p h) (all_end (heads_at p) n) (heads_at p x) (λ y f. lead_alike n m k p h y f (omega (arith, le)) (omega (arith, also))) e)

-- ---- nothing leads to itself
record Rest (p : Parts) (n h : ℕ) : Type 0 where
  pub left : ℕ
  pub few : left ≤ n
  pub ended : all_end (heads_at p) left h ≡ true

first_of : (b : Bool) → (b || false) ≡ true → b ≡ true
first_of true g = refl
first_of false g = g

pub ends_next : (p : Parts) (n x y : ℕ) → heads_at p x ≡ y ∷ [] → all_end (heads_at p) (suc n) x ≡ true → all_end (heads_at p) n y ≡ true
ends_next p n x y f e = (and_parts (all_end (heads_at p) n y) true (ap (list_all (all_end (heads_at p) n)) (sym f) ∙ e)).0

leads_next : (k : ℕ) (p : Parts) (h x y : ℕ) → heads_at p x ≡ y ∷ [] → any_of (leads_to k p h) (heads_at p x) ≡ true → leads_to k p h y ≡ true
leads_next k p h x y f further = first_of (leads_to k p h y) (ap (any_of (leads_to k p h)) (sym f) ∙ further)

rest_on : (n k : ℕ) (p : Parts) (h x : ℕ) → Heads (heads_at p x) → ((y : ℕ) → all_end (heads_at p) n y ≡ true → leads_to k p h y ≡ true → Rest p n h) → all_end (heads_at p) (suc n) x ≡ true → any_of (leads_to k p h) (heads_at p x) ≡ true → Rest p (suc n) h
rest_on n k p h x (no_head f) before e further = absurd (false≢true (ap (any_of (leads_to k p h)) (sym f) ∙ further))
rest_on n k p h x (a_head y f) before e further =
    let r = before y (ends_next p n x y f e) (leads_next k p h x y f further) in
    record { left = r.left; few = omega (arith, r.few); ended = r.ended }

rest_leads : (n k : ℕ) (p : Parts) (h x : ℕ) → all_end (heads_at p) n x ≡ true → leads_to k p h x ≡ true → Rest p n h
rest_leads n zero p h x e leads = absurd (false≢true leads)
rest_leads zero (suc k) p h x e leads = absurd (false≢true e)
rest_leads (suc n) (suc k) p h x e leads = elim (or_cases (x == h) (any_of (leads_to k p h) (heads_at p x)) leads) [
  | inl same ↦ record { left = suc n; few = omega arith; ended = subst (λ z. all_end (heads_at p) (suc n) z ≡ true) (eqb-true x h same) e }
  | inr further ↦ rest_on n k p h x (heads_are p x) (λ y f g. rest_leads n k p h y f g) e further
]

circle_on : (most n : ℕ) (p : Parts) (h y left : ℕ) → left ≤ suc n → suc n ≤ suc most → heads_at p h ≡ y ∷ [] → ((m : ℕ) → m ≤ most → all_end (heads_at p) m y ≡ true → ⊥) → all_end (heads_at p) left h ≡ true → ⊥
circle_on most n p h y zero few le f before e = false≢true e
circle_on most n p h y (suc m) few le f before e = before m (omega (arith, few, le)) (ends_next p m h y f e)

no_circle : (most n k : ℕ) (p : Parts) (h y : ℕ) → n ≤ most → heads_at p h ≡ y ∷ [] → all_end (heads_at p) n y ≡ true → leads_to k p h y ≡ true → ⊥
no_circle most zero k p h y le f e leads = false≢true e
no_circle zero (suc n) k p h y le f e leads = absurd (omega (arith, le))
no_circle (suc most) (suc n) k p h y le f e leads =
    let r = rest_leads (suc n) k p h y e leads in
    circle_on most n p h y r.left r.few le f (λ m few g. no_circle most m k p h y few f g leads) r.ended

-- ---- one step
abbrev pub leads : Parts → ℕ → ℕ → Bool
leads p h x = leads_to (suc (length p.elements)) p h x

leads_on : (p : Parts) (h x : ℕ) → all_end (heads_at p) (length p.elements) x ≡ true → leads p h x ≡ ((x == h) || any_of (leads p h) (heads_at p x))
leads_on p h x e = lead_alike (length p.elements) (suc (length p.elements)) (suc (suc (length p.elements))) p h x e (omega arith) (omega arith)

step_by : (f : ℕ → Bool) (b : Bool) (l : List ℕ) → Heads l → ((y : ℕ) → l ≡ y ∷ [] → b ≡ true → f y ≡ false) → one (b || any_of f l) ≡ one b + total (λ y. one (f y)) l
step_by f b l (no_head e) apart = subst (λ l. one (b || any_of f l) ≡ one b + total (λ y. one (f y)) l) (sym e) (by b)
  where
    by : (b : Bool) → one (b || false) ≡ one b + 0
    by true = refl
    by false = refl
step_by f b l (a_head y e) apart = subst (λ l. one (b || any_of f l) ≡ one b + total (λ y. one (f y)) l) (sym e) (by b (f y) (apart y e))
  where
    by : (b c : Bool) → (b ≡ true → c ≡ false) → one (b || (c || false)) ≡ one b + (one c + 0)
    by true true h = absurd (false≢true (sym (h refl)))
    by true false h = refl
    by false true h = refl
    by false false h = refl

not_so : (b : Bool) → (b ≡ true → ⊥) → b ≡ false
not_so true h = absurd (h refl)
not_so false h = refl

pub leads_step : (p : Parts) → ((x : ℕ) → all_end (heads_at p) (length p.elements) x ≡ true) → (h x : ℕ) → one (leads p h x) ≡ one (x == h) + total (λ y. one (leads p h y)) (heads_at p x)
leads_step p end h x =
    ap one (leads_on p h x (end x))
    ∙ step_by (leads p h) (x == h) (heads_at p x) (heads_are p x)
    (λ y e same. not_so (leads p h y) (λ l.
    no_circle (length p.elements) (length p.elements) (suc (length p.elements)) p h y (omega arith) (ap (heads_at p) (sym (eqb-true x h same)) ∙ e) (end y) l))

-- ---- what is the same one step on is the same
pub same_up : (p : Parts) (n : ℕ) (f g a : ℕ → ℕ) → ((x : ℕ) → f x ≡ a x + total f (heads_at p x)) → ((x : ℕ) → g x ≡ a x + total g (heads_at p x)) → (x : ℕ) → all_end (heads_at p) n x ≡ true → f x ≡ g x
same_up p zero f g a one_f one_g x e = absurd (false≢true e)
same_up p (suc n) f g a one_f one_g x e =
    one_f x
    ∙ ap (λ m. a x + m) (total-pass (all_end (heads_at p) n) f g (heads_at p x) (λ y h. same_up p n f g a one_f one_g y h) e)
    ∙ sym (one_g x)
