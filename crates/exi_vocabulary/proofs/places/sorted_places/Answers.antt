use Rattle.std.proofs.Common.{◌≡◌, ap, get_or, map, ◌∙◌}
use Rattle.std.proofs.lemmas.List.{take_all}
use Rattle.exi_order.specs.Keys.{keys_of}
use Rattle.exi_order.specs.Sorting.{places_in_order}
use Rattle.exi_vocabulary.specs.Vocabulary.{pair_at}
use Rattle.exi_vocabulary.proofs.Taken.{at_place, chosen_more, place_there, places_sorted}
use Rattle.exi_vocabulary.proofs.places.sorted_places.Goals as goal

pub loop-place-preserved : goal.loop-place-preserved
loop-place-preserved c =
    ap keys_of c.in_ok-push.ensures.items
    ∙ chosen_more c.args.keys.now c.args.places.now c.loop-place.chosen.items c.loop-place.place-index c.index-keys-place.result c.loop-place-test.true
    (at_place _ c.args.places.now c.loop-place.place-index c.requires.within c.loop-place-test.true) c.index-keys-place.is c.loop-place.invariant

pub bounds-places-place : goal.bounds-places-place
bounds-places-place c =
    let names = keys_of c.args.keys.now in
    let order : c.as_slice-place-items.result.now ≡ places_in_order (map (pair_at names) c.args.places.now) =
    c.as_slice-place-items.ensures.value ∙ c.in_ok-places_in_order.ensures
    ∙ ap (λ ks. places_in_order (keys_of ks)) c.as_slice.ensures.value
    ∙ ap places_in_order (c.loop-place.invariant ∙ ap (map (pair_at names)) (take_all c.loop-place.place-index c.args.places.now c.loop-place-test.false)) in
    place_there names c.args.places.now c.as_slice-place-items.result.now order c.loop-place-2.place-index c.loop-place-2-test.true

pub returns : goal.returns
returns c =
    let names = keys_of c.args.keys.now in
    let order : c.as_slice-place-items.result.now ≡ places_in_order (map (pair_at names) c.args.places.now) =
    c.as_slice-place-items.ensures.value ∙ c.in_ok-places_in_order.ensures
    ∙ ap (λ ks. places_in_order (keys_of ks)) c.as_slice.ensures.value
    ∙ ap places_in_order (c.loop-place.invariant ∙ ap (map (pair_at names)) (take_all c.loop-place.place-index c.args.places.now c.loop-place-test.false)) in
    c.loop-place-2.invariant
    ∙ ap (map (λ p. get_or c.args.places.now p 0)) (take_all c.loop-place-2.place-index c.as_slice-place-items.result.now c.loop-place-2-test.false ∙ order)
    ∙ places_sorted names c.args.places.now
