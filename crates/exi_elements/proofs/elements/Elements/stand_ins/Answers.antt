use Rattle.std.proofs.Common.{◌≡◌, ℕ, ◌<◌, All, List, [], ◌∷◌, ◌++◌, IfOk, length, sym, ap, ◌∙◌, subst, arith}
use Rattle.std.specs.List.{filter}
use Rattle.std.specs.List.Sorted.{IsNonDecreasingBy, IsPermutation}
use Rattle.std.proofs.lemmas.List.Elements.{All-cons, All-nil, All-same}
use Rattle.std.proofs.lemmas.List.Sorted.{IsNonDecreasingBy-from_sort}
use Rattle.exi_gram.specs.Laws.{places_from}
use Rattle.exi_gram.specs.Orders.{in_order}
use Rattle.xsd_model.specs.Parts.{IsSchemaParts, Parts}
use Rattle.exi_elements.specs.Members.{AreMembers, IsWalk}
use Rattle.exi_elements.specs.StandIns.{element_before, stand_ins}
use Rattle.exi_elements.proofs.Counting.{few_led}
use Rattle.exi_elements.proofs.Joined.{below_places, members_below}
use Rattle.exi_elements.proofs.Leading.{leads}
use Rattle.exi_elements.proofs.Led.{sorted_walk}
use Rattle.exi_elements.proofs.Totals.{total-filter}
use Rattle.exi_elements.proofs.elements.Elements.stand_ins.Goals as goal

abbrev led : Parts → ℕ → List ℕ
led p h = filter (leads p h) (places_from 0 p.elements)

led_few : (p : Parts) (h : ℕ) → length p.elements < 4294967296 → length (led p h) < 4294967296
led_few p h few = omega (arith, few, total-filter (leads p h) (places_from 0 p.elements), few_led p h)

led_below : (p : Parts) (h : ℕ) → All (λ m. m < length p.elements) (led p h)
led_below p h = below_places (leads p h) 0 (length p.elements) p.elements (omega arith)

-- what is sorted
sorted_is : (p : Parts) (lists kept : List (List ℕ)) (h : ℕ) (starts walk sorted slice : List ℕ) → IsSchemaParts p → h < length p.elements → AreMembers p kept → lists ≡ kept → starts ≡ h ∷ [] → IsWalk lists starts walk → IsPermutation walk sorted → IsNonDecreasingBy (λ x. x) sorted → slice ≡ sorted → slice ≡ led p h
sorted_is p lists kept h starts walk sorted slice schema less are same start is moved up slice_is =
    slice_is ∙ sorted_walk p lists h walk sorted schema less (subst (AreMembers p) (sym same) are) (subst (λ s. IsWalk lists s walk) start is) moved up

pub walked-requires : goal.walked-requires
walked-requires c =
    let p = c.self.inside.parts.now in
    let lists = c.as_slice.result.now in
    let are : AreMembers p lists = subst (AreMembers p) (sym c.as_slice.ensures.value) c.self.invariant.members_are in
    let start : c.push.new.self.items ≡ c.args.place ∷ [] = c.in_ok-push.ensures.items ∙ ap (λ l. l ++ c.args.place ∷ []) c.new-start.ensures.items in
    let there : c.args.place < length p.elements = subst (λ (q : Parts). c.args.place < length q.elements) (sym c.self.view_is) c.requires.exists in
    let count = are.count in
    let less : c.args.place < length lists = omega (arith, count, there) in record {
      starts = All-same (λ m. m < length lists) c.push.new.self.items (c.args.place ∷ []) start (All-cons (λ m. m < length lists) c.args.place [] less (All-nil (λ m. m < length lists)));
      members = members_below p lists are;
    }

pub by_name-requires : goal.by_name-requires
by_name-requires c =
    let p = c.self.inside.parts.now in
    let place = c.args.place in
    let start : c.push.new.self.items ≡ place ∷ [] = c.in_ok-push.ensures.items ∙ ap (λ l. l ++ place ∷ []) c.new-start.ensures.items in
    let there : place < length p.elements = subst (λ (q : Parts). place < length q.elements) (sym c.self.view_is) c.requires.exists in
    let sorted = c.sort_unstable.new.self.items in
    let is : c.as_slice-2.result.now ≡ led p place =
    sorted_is p c.as_slice.result.now c.self.inside.members.items place c.push.new.self.items c.in_ok-places.places.items sorted c.as_slice-2.result.now c.self.invariant.schema there c.self.invariant.members_are c.as_slice.ensures.value start c.in_ok-places.ensures
    c.sort_unstable.ensures.permutation (IsNonDecreasingBy-from_sort (λ x. x) sorted c.sort_unstable.ensures.sorted) c.as_slice-2.ensures.value in record {
      few = subst (λ (l : List ℕ). length l < 4294967296) (sym is) (led_few p place c.self.invariant.few);
      there = All-same (λ m. m < length p.elements) c.as_slice-2.result.now (led p place) is (led_below p place);
    }

pub returns : goal.returns
returns c =
    let p = c.self.inside.parts.now in
    let place = c.args.place in
    let start : c.push.new.self.items ≡ place ∷ [] = c.in_ok-push.ensures.items ∙ ap (λ l. l ++ place ∷ []) c.new-start.ensures.items in
    let there : place < length p.elements = subst (λ (q : Parts). place < length q.elements) (sym c.self.view_is) c.requires.exists in
    let sorted = c.sort_unstable.new.self.items in
    let is : c.as_slice-2.result.now ≡ led p place =
    sorted_is p c.as_slice.result.now c.self.inside.members.items place c.push.new.self.items c.in_ok-places.places.items sorted c.as_slice-2.result.now c.self.invariant.schema there c.self.invariant.members_are c.as_slice.ensures.value start c.in_ok-places.ensures
    c.sort_unstable.ensures.permutation (IsNonDecreasingBy-from_sort (λ x. x) sorted c.sort_unstable.ensures.sorted) c.as_slice-2.ensures.value in
    subst (λ (q : Parts). IfOk c.by_name.result (λ l. l ≡ stand_ins q place)) c.self.view_is
    (subst (λ xs. IfOk c.by_name.result (λ l. l ≡ in_order (element_before p) xs)) is c.by_name.ensures)
