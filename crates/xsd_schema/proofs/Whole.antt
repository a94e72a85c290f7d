-- In a document where nothing is wrong, the paths from each element that no annotation holds end.
use Rattle.std.proofs.Common.{◌≡◌, ℕ, zero, suc, ◌<◌, ◌==◌, Bool, true, false, ◌||◌, Option, Some, None, inl, inr, List, [], ◌∷◌, length, refl, sym, ap, ◌∙◌, true≢false, eqb-true}
use Rattle.std.specs.List.{list_all, list_any}
use Rattle.std.proofs.lemmas.Bool.{and_parts, cases_Bool, false≢true, or_from}
use Rattle.xsd_tree.specs.Trees.{IsTree}
use Rattle.xsd_tree.specs.declared.node.Node.{Node}
use Rattle.xsd_nodes.specs.Nodes.{is_among_at, is_skipped}
use Rattle.xsd_circles.specs.Circles.{reaches, reaches_itself}
use Rattle.xsd_circles.proofs.Ending.{paths_end}
use Rattle.xsd_paths.specs.Paths.{is_whole, leads_to}
use Rattle.xsd_paths.proofs.Within.{all_lead}
use Rattle.xsd_steps.specs.Steps.{steps}
use Rattle.xsd_schema.proofs.Stays.{are_reached, last_false}
use Rattle.xsd_schema.proofs.Steps.{AreSure, steps_reached}
use Rattle.xsd_schema.proofs.Sure.{free_from, free_there, is_free, is_reached, reached_parts}

-- ---- nothing leads to an element that is none of the parts to which steps lead
none_leads : (ns : List Node) (test : ℕ → Bool) (os : List (Option ℕ)) → ((m : ℕ) → is_reached ns m ≡ true → test m ≡ false) → are_reached ns os ≡ true → list_any (leads_to test) os ≡ false
none_leads ns test [] h e = refl
none_leads ns test (None ∷ os) h e = absurd (false≢true e)
none_leads ns test (Some m ∷ os) h e =
    let both = and_parts (is_reached ns m) (are_reached ns os) e in
    or_from (test m) (list_any (leads_to test) os) (h m both.0) (none_leads ns test os h both.1)

another : (ns : List Node) (goal m : ℕ) → is_among_at ns reached_parts goal ≡ false → is_among_at ns reached_parts m ≡ true → (m == goal) ≡ false
another ns goal m none e = elim (cases_Bool (m == goal)) [
  | inl same ↦ absurd (true≢false (sym e ∙ ap (is_among_at ns reached_parts) (eqb-true m goal same) ∙ none))
  | inr not_same ↦ not_same
]

never_reached : (n : ℕ) (ns : List Node) (goal i : ℕ) → IsTree ns → AreSure ns → is_among_at ns reached_parts goal ≡ false → is_free ns i ≡ true → reaches n ns goal i ≡ false
never_reached zero ns goal i tree sure none free = refl
never_reached (suc n) ns goal i tree sure none free =
    let here = free_there ns i free in
    none_leads ns (λ m. (m == goal) || reaches n ns goal m) (steps ns i)
    (λ m r.
    let both = and_parts (is_free ns m) (is_among_at ns reached_parts m) r in
    or_from (m == goal) (reaches n ns goal m) (another ns goal m none both.1) (never_reached n ns goal m tree sure none both.0))
    (steps_reached ns i tree sure here.0 here.1)

-- so that none reaches itself
not_itself : (ns : List Node) (i : ℕ) → IsTree ns → AreSure ns → is_free ns i ≡ true → reaches_itself ns i ≡ false
unfolding reaches_itself
not_itself ns i tree sure free = elim (cases_Bool (is_among_at ns reached_parts i)) [
  | inl some ↦ let here = free_there ns i free in last_false (is_among_at ns reached_parts i) (reaches_itself ns i) some (sure i here.0 here.1).no_circle
  | inr none ↦ never_reached (length ns) ns i i tree sure none free
]

stays_free : (ns : List Node) (i : ℕ) → IsTree ns → AreSure ns → is_free ns i ≡ true → list_all (leads_to (is_free ns)) (steps ns i) ≡ true
stays_free ns i tree sure free =
    let here = free_there ns i free in
    all_lead (is_reached ns) (is_free ns) (steps ns i) (λ j r. (and_parts (is_free ns j) (is_among_at ns reached_parts j) r).0) (steps_reached ns i tree sure here.0 here.1)

pub each_whole : (ns : List Node) (i : ℕ) → IsTree ns → AreSure ns → i < length ns → is_skipped ns i ≡ false → is_whole ns i ≡ true
each_whole ns i tree sure less free = paths_end ns (is_free ns) (λ j e. not_itself ns j tree sure e) (λ j e. stays_free ns j tree sure e) i (free_from ns i less free)
