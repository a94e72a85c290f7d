use Rattle.std.proofs.Common.{◌≡◌, ℕ, ◌<◌, List, get_or, length, map, sym, ap, ◌∙◌, subst, arith}
use Rattle.std.proofs.lemmas.List.{length-map, take_all}
use Rattle.exi_order.specs.Keys.{key_of, keys_of}
use Rattle.exi_order.specs.Sorting.{places_in_order}
use Rattle.exi_elements.specs.StandIns.{element_pair}
use Rattle.exi_elements.proofs.ByName.{at, index_within, named_is, pairs}
use Rattle.exi_elements.proofs.named.by_name.Goals as goal

pub places_in_order-requires : goal.places_in_order-requires
places_in_order-requires c =
    let p = c.args.parts.now in
    let places = c.args.places.now in
    let few = c.requires.few in
    let same : length c.in_ok-keys.keys.items ≡ length places = sym (length-map c.in_ok-keys.keys.items key_of) ∙ ap length c.in_ok-keys.ensures ∙ length-map places (element_pair p) in
    let all : length c.as_slice.result.now ≡ length c.in_ok-keys.keys.items = ap length c.as_slice.ensures.value in
    record { few = omega (arith, few, same, all) }

pub bounds-places-index : goal.bounds-places-index
bounds-places-index c =
    let p = c.args.parts.now in
    let places = c.args.places.now in
    let i = c.loop-index.index-index in
    let items : c.deref-index-items.result.now ≡ places_in_order (pairs p places) = c.deref-index-items.ensures.value ∙ c.in_ok-sorted.ensures ∙ ap places_in_order (ap keys_of c.as_slice.ensures.value ∙ c.in_ok-keys.ensures) in
    subst (λ (l : List ℕ). get_or l i 0 < length places) (sym items) (index_within p places i 0 (subst (λ (l : List ℕ). i < length l) items c.loop-index-test.true))

pub returns : goal.returns
returns c =
    let p = c.args.parts.now in
    let places = c.args.places.now in
    let items : c.deref-index-items.result.now ≡ places_in_order (pairs p places) = c.deref-index-items.ensures.value ∙ c.in_ok-sorted.ensures ∙ ap places_in_order (ap keys_of c.as_slice.ensures.value ∙ c.in_ok-keys.ensures) in
    c.loop-index.invariant
    ∙ ap (map (at places)) (take_all c.loop-index.index-index c.deref-index-items.result.now c.loop-index-test.false ∙ items)
    ∙ named_is p places
