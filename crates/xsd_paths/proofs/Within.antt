-- Paths that end within so many steps.
use Rattle.std.proofs.Common.{◌≡◌, ℕ, zero, suc, ◌+◌, ◌-◌, ◌<◌, ◌≤◌, Bool, true, Option, Some, None, List, [], ◌∷◌, get_or, length, refl, sym, ap, ◌∙◌, arith}
use Rattle.std.specs.List.{list_all}
use Rattle.std.proofs.lemmas.Bool.{and_from, and_parts, false≢true}
use Rattle.std.proofs.lemmas.Option.{none-some}
use Rattle.xsd_tree.specs.declared.node.Node.{Node}
use Rattle.xsd_steps.specs.Steps.{steps}
use Rattle.xsd_paths.specs.Paths.{is_whole, is_whole_within, leads_to}

-- ---- where steps lead
pub leads_if : (p q : ℕ → Bool) (o : Option ℕ) → ((j : ℕ) → p j ≡ true → q j ≡ true) → leads_to p o ≡ true → leads_to q o ≡ true
leads_if p q None h e = e
leads_if p q (Some j) h e = h j e

-- where a weaker test does for each element to which a step leads, so for all steps
pub all_lead : (p q : ℕ → Bool) (os : List (Option ℕ)) → ((j : ℕ) → p j ≡ true → q j ≡ true) → list_all (leads_to p) os ≡ true → list_all (leads_to q) os ≡ true
all_lead p q [] h e = refl
all_lead p q (o ∷ os) h e =
    let both = and_parts (leads_to p o) (list_all (leads_to p) os) e in
    and_from (leads_to q o) (list_all (leads_to q) os) (leads_if p q o h both.0) (all_lead p q os h both.1)

-- the element to which one of the steps leads
pub leads_at : (p : ℕ → Bool) (o : Option ℕ) (j : ℕ) → leads_to p o ≡ true → o ≡ Some j → p j ≡ true
leads_at p o j e f = sym (ap (leads_to p) f) ∙ e

pub one_leads : (p : ℕ → Bool) (os : List (Option ℕ)) (s j : ℕ) → list_all (leads_to p) os ≡ true → get_or os s None ≡ Some j → p j ≡ true
one_leads p [] s j e f = absurd (none-some j f)
one_leads p (o ∷ os) zero j e f = leads_at p o j (and_parts (leads_to p o) (list_all (leads_to p) os) e).0 f
one_leads p (o ∷ os) (suc s) j e f = one_leads p os s j (and_parts (leads_to p o) (list_all (leads_to p) os) e).1 f

-- each step leads somewhere
pub is_led : (p : ℕ → Bool) (o : Option ℕ) → leads_to p o ≡ true → (j : ℕ) × (o ≡ Some j) × (p j ≡ true)
is_led p None e = absurd (false≢true e)
is_led p (Some j) e = (j, refl, e)

pub each_leads : (p : ℕ → Bool) (os : List (Option ℕ)) (s : ℕ) → s < length os → list_all (leads_to p) os ≡ true → (j : ℕ) × (get_or os s None ≡ Some j) × (p j ≡ true)
each_leads p [] s less e = absurd (omega arith)
each_leads p (o ∷ os) zero less e = is_led p o (and_parts (leads_to p o) (list_all (leads_to p) os) e).0
each_leads p (o ∷ os) (suc s) less e = each_leads p os s (omega arith) (and_parts (leads_to p o) (list_all (leads_to p) os) e).1

-- ---- with more steps
pub within_one_more : (n : ℕ) (ns : List Node) (i : ℕ) → is_whole_within n ns i ≡ true → is_whole_within (suc n) ns i ≡ true
within_one_more zero ns i e = absurd (false≢true e)
within_one_more (suc n) ns i e = all_lead (is_whole_within n ns) (is_whole_within (suc n) ns) (steps ns i) (within_one_more n ns) e

pub within_add : (d n : ℕ) (ns : List Node) (i : ℕ) → is_whole_within n ns i ≡ true → is_whole_within (d + n) ns i ≡ true
within_add zero n ns i e = let f : 0 + n ≡ n = omega arith in ap (λ (k : ℕ). is_whole_within k ns i) f ∙ e
within_add (suc d) n ns i e =
    let f : suc d + n ≡ suc (d + n) = omega arith in
    ap (λ (k : ℕ). is_whole_within k ns i) f ∙ within_one_more (d + n) ns i (within_add d n ns i e)

pub within_more : (n m : ℕ) (ns : List Node) (i : ℕ) → n ≤ m → is_whole_within n ns i ≡ true → is_whole_within m ns i ≡ true
within_more n m ns i le e = let f : m ≡ (m - n) + n = omega arith in ap (λ (k : ℕ). is_whole_within k ns i) f ∙ within_add (m - n) n ns i e

-- ---- whole
pub whole_within : (n : ℕ) (ns : List Node) (i : ℕ) → n ≤ suc (length ns) → is_whole_within n ns i ≡ true → is_whole ns i ≡ true
unfolding is_whole
whole_within n ns i le e = within_more n (suc (length ns)) ns i le e

pub is_within : (ns : List Node) (i : ℕ) → is_whole ns i ≡ true → is_whole_within (suc (length ns)) ns i ≡ true
unfolding is_whole
is_within ns i e = e

-- where an element's paths end, so do those of what its steps lead to
pub whole_steps : (ns : List Node) (i : ℕ) → is_whole ns i ≡ true → list_all (leads_to (is_whole ns)) (steps ns i) ≡ true
whole_steps ns i e = all_lead (is_whole_within (length ns) ns) (is_whole ns) (steps ns i) (λ j f. whole_within (length ns) ns j (omega arith) f) (is_within ns i e)

pub whole_step : (ns : List Node) (i s j : ℕ) → is_whole ns i ≡ true → get_or (steps ns i) s None ≡ Some j → is_whole ns j ≡ true
whole_step ns i s j e f = one_leads (is_whole ns) (steps ns i) s j (whole_steps ns i e) f

pub step_of_whole : (ns : List Node) (i s : ℕ) → is_whole ns i ≡ true → s < length (steps ns i) → (j : ℕ) × (get_or (steps ns i) s None ≡ Some j) × (is_whole ns j ≡ true)
step_of_whole ns i s e less = each_leads (is_whole ns) (steps ns i) s less (whole_steps ns i e)

-- an element without steps
pub whole_without_steps : (ns : List Node) (i : ℕ) → steps ns i ≡ [] → is_whole ns i ≡ true
unfolding is_whole
whole_without_steps ns i e = ap (list_all (leads_to (is_whole_within (length ns) ns))) e
