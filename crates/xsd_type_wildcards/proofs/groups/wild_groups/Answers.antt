use Rattle.std.proofs.Common.{◌≡◌, ◌<◌, ◌≤◌, Bool, false, ◌&&◌, List, get_or, length, set, refl, ap, ◌∙◌, arith}
use Rattle.std.proofs.lemmas.List.{length-set}
use Rattle.xsd_tree.specs.declared.node.Node.{Node}
use Rattle.xsd_paths.proofs.Orders.{entries_more}
use Rattle.xsd_type_wildcards.specs.Told.{has_own_by, is_group, is_marked}
use Rattle.xsd_type_wildcards.proofs.Named.{are_groups, group_next, group_told}
use Rattle.xsd_type_wildcards.proofs.groups.wild_groups.Goals as goal

pub loop-place-preserved : goal.loop-place-preserved
loop-place-preserved c =
    let ns = c.args.paths.now in
    let order = c.order-order.result.now in
    let k = c.loop-place.place-index in
    let old = c.loop-place.groups.items in
    let found = c.in_ok-is_wild.is_wild in
    let place = get_or order k 0 in
    let before = c.loop-place.invariant in
    let inside : place < length old = omega (arith, before.count, c.order-order.ensures.there k c.loop-place-test.true) in
    let found_is : found ≡ (is_group ns place && has_own_by ns (is_marked old) place) =
    c.in_ok-is_wild.ensures
    ∙ ap (λ (x : List Node). is_group x place && has_own_by x (is_marked c.as_slice.result.now) place) c.schema-schema.ensures
    ∙ ap (λ (l : List Bool). is_group ns place && has_own_by ns (is_marked l) place) c.as_slice.ensures.value in
    record {
      count = length-set old place found ∙ before.count;
      each = entries_more order old (set old place found) false (group_told ns) k found c.loop-place-test.true inside refl (found_is ∙ group_next ns order k old c.order-order.ensures c.loop-place-test.true before.each) before.each;
    }

pub returns : goal.returns
returns c =
    let ended : length c.order-order.result.now ≤ c.loop-place.place-index = omega (arith, c.loop-place-test.false) in
    are_groups c.args.paths.now c.loop-place.groups.items c.order-order.result.now c.loop-place.place-index c.order-order.ensures ended c.loop-place.invariant.each
