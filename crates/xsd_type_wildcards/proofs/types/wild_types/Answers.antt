use Rattle.std.proofs.Common.{◌≡◌, ◌<◌, ◌≤◌, Option, Some, List, get_or, length, set, refl, ap, ◌∙◌, arith}
use Rattle.std.proofs.lemmas.List.{length-set}
use Rattle.xsd_paths.proofs.Orders.{entries_more}
use Rattle.xsd_type_wildcards.specs.Told.{told_by, told_in}
use Rattle.xsd_type_wildcards.specs.declared.source.Source.{Source}
use Rattle.xsd_type_wildcards.specs.declared.source.Source.TheVariants as source
use Rattle.xsd_type_wildcards.proofs.Bases.{are_types, told_of_node, types_next}
use Rattle.xsd_type_wildcards.proofs.types.wild_types.Goals as goal

pub loop-place-preserved : goal.loop-place-preserved
loop-place-preserved c =
    let ns = c.args.paths.now in
    let order = c.order-order.result.now in
    let k = c.loop-place.place-index in
    let old = c.loop-place.types.items in
    let found = c.in_ok-told.told in
    let place = get_or order k 0 in
    let before = c.loop-place.invariant in
    let inside : place < length old = omega (arith, before.count, c.order-order.ensures.there k c.loop-place-test.true) in
    let found_is : found ≡ told_by ns (told_in old) place =
    c.in_ok-told.ensures
    ∙ ap (λ (l : List (Option Source)). told_by ns (told_in l) place) c.as_slice.ensures.value in
    record {
      count = length-set old place found ∙ before.count;
      each = entries_more order old (set old place found) (Some source.Nowhere) (told_of_node ns) k found c.loop-place-test.true inside refl (found_is ∙ types_next ns order k old c.order-order.ensures c.loop-place-test.true before.each) before.each;
    }

pub returns : goal.returns
returns c =
    let ended : length c.order-order.result.now ≤ c.loop-place.place-index = omega (arith, c.loop-place-test.false) in
    are_types c.args.paths.now c.loop-place.types.items c.order-order.result.now c.loop-place.place-index c.order-order.ensures c.loop-place.invariant.count ended c.loop-place.invariant.each
