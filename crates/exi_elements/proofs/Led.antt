-- What a walk from an element on comes to are the elements that may stand for it, and how many they are.
use Rattle.std.proofs.Common.{◌≡◌, ℕ, ◌+◌, ◌<◌, ◌≤◌, ◌==◌, true, inl, inr, List, [], ◌∷◌, length, sym, ap, ◌∙◌, arith}
use Rattle.std.specs.List.{filter}
use Rattle.std.specs.List.Sorted.{IsNonDecreasingBy, IsPermutation}
use Rattle.std.proofs.lemmas.Bool.{cases_lt, ne_eqb}
use Rattle.exi_gram.specs.Laws.{places_from}
use Rattle.exi_order.proofs.InOrder.{in_order-length}
use Rattle.xsd_model.specs.Parts.{IsSchemaParts, Parts, all_end, heads_at}
use Rattle.exi_elements.specs.StandIns.{element_before, stand_ins}
use Rattle.exi_elements.specs.Members.{AreMembers, IsWalk}
use Rattle.exi_elements.proofs.Totals.{one, times, times_behind, times_there, total, total-filter, total-permutation}
use Rattle.exi_elements.proofs.Leading.{ends, leads, leads_step, no_heads}
use Rattle.exi_elements.proofs.Walking.{led_count, times_led}
use Rattle.exi_elements.proofs.Rising.{one_rising, rises_from, rises_places}

abbrev pub AlwaysEnds : Parts → Type 0
AlwaysEnds p = (x : ℕ) → all_end (heads_at p) (length p.elements) x ≡ true

pub always : (p : Parts) → IsSchemaParts p → 0 < length p.elements → AlwaysEnds p
always p is some = ends p is.heads some

-- ---- no other place leads there
outside : (p : Parts) → AlwaysEnds p → (h x : ℕ) → h < length p.elements → length p.elements ≤ x → one (leads p h x) ≡ 0
outside p end h x less le =
    leads_step p end h x
    ∙ ap (λ l. one (x == h) + total (λ y. one (leads p h y)) l) (no_heads p x le)
    ∙ ap (λ b. one b + 0) (ne_eqb x h (λ e. omega (arith, less, le, e)))

pub times_places : (p : Parts) → AlwaysEnds p → (h x : ℕ) → h < length p.elements → times x (filter (leads p h) (places_from 0 p.elements)) ≡ one (leads p h x)
times_places p end h x less = elim (cases_lt x (length p.elements)) [
  | inl inside ↦ times_there (leads p h) x 0 p.elements (omega arith) (omega (arith, inside))
  | inr le ↦ times_behind (leads p h) x 0 p.elements (omega (arith, le)) ∙ sym (outside p end h x less le)
]

-- ---- a walk that is sorted
pub sorted_walk : (p : Parts) (lists : List (List ℕ)) (h : ℕ) (walk sorted : List ℕ) → IsSchemaParts p → h < length p.elements → AreMembers p lists → IsWalk lists (h ∷ []) walk → IsPermutation walk sorted → IsNonDecreasingBy (λ x. x) sorted → sorted ≡ filter (leads p h) (places_from 0 p.elements)
sorted_walk p lists h walk sorted schema less are is moved up =
    let end = always p schema (omega (arith, less)) in
    one_rising sorted (filter (leads p h) (places_from 0 p.elements)) (rises_from sorted up) (rises_places (leads p h) 0 p.elements)
    (λ x. total-permutation (λ y. one (x == y)) walk sorted moved ∙ times_led p lists h walk end are is x ∙ sym (times_places p end h x less))

-- ---- how many
pub count_is : (p : Parts) (h : ℕ) → length (stand_ins p h) ≡ led_count p h
count_is p h = in_order-length (element_before p) (filter (leads p h) (places_from 0 p.elements)) ∙ total-filter (leads p h) (places_from 0 p.elements)
