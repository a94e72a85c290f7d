-- Steps enough: what a type is does not change with more of them.
use Rattle.std.proofs.Common.{◌≡◌, ℕ, zero, suc, ◌+◌, ◌<◌, ◌≤◌, true, Option, Some, None, List, get_or, length, take, refl, sym, ap, ◌∙◌, arith}
use Rattle.std.specs.List.{list_all}
use Rattle.std.proofs.lemmas.Bool.{and_parts, false≢true}
use Rattle.std.proofs.lemmas.List.{get_or-take, length-take}
use Rattle.xsd_tree.specs.declared.node.Node.{Node}
use Rattle.xsd_components.specs.References.{derivation}
use Rattle.xsd_components.specs.declared.type_at.TypeAt.{TypeAt}
use Rattle.xsd_components.specs.declared.type_at.TypeAt.TheVariants as type_at
use Rattle.xsd_paths.specs.Paths.{IsOrder, is_in, is_whole_within, leads_to}
use Rattle.xsd_paths.proofs.Orders.{in_at, order_within, place_among}
use Rattle.xsd_paths.proofs.Within.{all_lead, within_one_more}
use Rattle.xsd_restrictions.specs.Restrictions.{Simple}
use Rattle.xsd_steps.specs.Steps.{steps}
use Rattle.xsd_simple.specs.Simple.{derived_simple, simple_derived, simple_within}
use Rattle.xsd_simple.proofs.Follows.{Follows, IsClosed, step_agrees}

-- ---- closed
whole_closed : (ns : List Node) (n : ℕ) → IsClosed ns (is_whole_within n ns)
whole_closed ns zero i e = absurd (false≢true e)
whole_closed ns (suc n) i e = all_lead (is_whole_within n ns) (is_whole_within (suc n) ns) (steps ns i) (within_one_more n ns) e

in_among : (xs : List ℕ) (k p : ℕ) → p < k → p < length xs → is_in (take k xs) (get_or xs p 0) ≡ true
in_among xs k p less inside =
    let l : p < length (take k xs) = omega (arith, less, inside, length-take k xs) in
    sym (ap (is_in (take k xs)) (get_or-take k xs p 0 less)) ∙ in_at (take k xs) p l

in_fewer : (xs : List ℕ) (p k i : ℕ) → p ≤ k → is_in (take p xs) i ≡ true → is_in (take k xs) i ≡ true
in_fewer xs p k i le e =
    let r = place_among xs p i e in
    let l1 = r.1 in
    let less : r.0 < k = omega (arith, le, l1) in
    sym (ap (is_in (take k xs)) r.3) ∙ in_among xs k r.0 less r.2

pub order_closed : (ns : List Node) (order : List ℕ) (k : ℕ) → IsOrder ns order → IsClosed ns (is_in (take k order))
order_closed ns order k o i e =
    let r = place_among order k i e in
    let l1 = r.1 in
    let le : r.0 ≤ k = omega (arith, l1) in
    ap (λ (j : ℕ). list_all (leads_to (is_in (take k order))) (steps ns j)) (sym r.3)
    ∙ all_lead (is_in (take r.0 order)) (is_in (take k order)) (steps ns (get_or order r.0 0)) (λ j f. in_fewer order r.0 k j le f) (o.before r.0 r.2)

-- ---- more steps
same_within : (ns : List Node) (m n i j : ℕ) → derivation ns i ≡ derivation ns j → simple_within (suc m) ns (type_at.Node i) ≡ simple_within (suc n) ns (type_at.Node i) → simple_within (suc m) ns (type_at.Node j) ≡ simple_within (suc n) ns (type_at.Node j)
same_within ns m n i j d e = sym (ap (simple_derived ns (simple_within m ns)) d) ∙ e ∙ ap (simple_derived ns (simple_within n ns)) d

follows_within : (ns : List Node) (m n : ℕ) → ((i : ℕ) → is_whole_within m ns i ≡ true → simple_within (suc m) ns (type_at.Node i) ≡ simple_within (suc n) ns (type_at.Node i)) → Follows ns (is_whole_within m ns) (λ t. simple_within (suc m) ns t ≡ simple_within (suc n) ns t)
follows_within ns m n each = record { closed = whole_closed ns m; built = λ place. refl; node = each; same = same_within ns m n }

settled : (ns : List Node) (m n : ℕ) → m ≤ n → (i : ℕ) → is_whole_within m ns i ≡ true → simple_within (suc m) ns (type_at.Node i) ≡ simple_within (suc n) ns (type_at.Node i)
settled ns zero n le i e = absurd (false≢true e)
settled ns (suc m) zero le i e = absurd (omega (arith, le))
settled ns (suc m) (suc n) le i e =
    let less : m ≤ n = omega (arith, le) in
    step_agrees ns (is_whole_within m ns) (simple_within (suc m) ns) (simple_within (suc n) ns) (follows_within ns m n (settled ns m n less)) i e

pub one_step : (ns : List Node) (n i : ℕ) → is_whole_within n ns i ≡ true → simple_within (suc n) ns (type_at.Node i) ≡ simple_derived ns (simple_within (suc n) ns) (derivation ns i)
one_step ns zero i e = absurd (false≢true e)
one_step ns (suc m) i e =
    let less : m ≤ suc m = omega arith in
    step_agrees ns (is_whole_within m ns) (simple_within (suc m) ns) (simple_within (suc (suc m)) ns) (follows_within ns m (suc m) (settled ns m (suc m) less)) i e

-- an order has no more steps than elements
unfoldable pub final : List Node → ℕ → Simple
final ns d = derived_simple ns (simple_within (suc (length ns)) ns) d

place_within : (ns : List Node) (order : List ℕ) (p : ℕ) → IsOrder ns order → p < length order → is_whole_within (length ns) ns (get_or order p 0) ≡ true
place_within ns order p o less = order_within ns order o.before (length ns) p (let f = o.few in omega (arith, less, f)) less

-- what one of the order is, by its derivation
pub in_order : (ns : List Node) (order : List ℕ) (k i : ℕ) → IsOrder ns order → is_in (take k order) i ≡ true → simple_within (suc (length ns)) ns (type_at.Node i) ≡ simple_derived ns (simple_within (suc (length ns)) ns) (derivation ns i)
in_order ns order k i o e =
    let r = place_among order k i e in
    one_step ns (length ns) i (sym (ap (is_whole_within (length ns) ns) r.3) ∙ place_within ns order r.0 o r.2)
