use Rattle.std.proofs.Common.{◌≡◌, ◌≤◌, Bool, false, List, get_or, length, set, refl, ap, ◌∙◌, arith}
use Rattle.xsd_tree.specs.declared.node.Node.{Node}
use Rattle.xsd_values.specs.Told.{mixed_by, mixed_told}
use Rattle.xsd_values.proofs.Walks.{are_mixed, count_next, tells_next, mixed_next, mixed_of_node}
use Rattle.xsd_values.proofs.mixed.mixed_types.Goals as goal

pub loop-place-preserved : goal.loop-place-preserved
loop-place-preserved c =
    let ns = c.args.paths.now in
    let order = c.order-order.result.now in
    let k = c.loop-place.place-index in
    let old = c.loop-place.mixed.items in
    let now_mixed = c.in_ok-is_mixed.is_mixed in
    let place = get_or order k 0 in
    let before = c.loop-place.invariant in
    let mixed_is : now_mixed ≡ mixed_by ns (mixed_told old) place =
    c.in_ok-is_mixed.ensures
    ∙ ap (λ (x : List Node). mixed_by x (mixed_told c.as_slice.result.now) place) c.schema-schema.ensures
    ∙ ap (λ (l : List Bool). mixed_by ns (mixed_told l) place) c.as_slice.ensures.value in
    record {
      count = count_next old (set old place now_mixed) (length ns) place now_mixed before.count refl;
      each = tells_next ns false (mixed_of_node ns) order k old (set old place now_mixed) now_mixed c.order-order.ensures c.loop-place-test.true before.count before.each refl
          (mixed_is ∙ mixed_next ns order k old c.order-order.ensures c.loop-place-test.true before.each);
    }

pub returns : goal.returns
returns c =
    let ended : length c.order-order.result.now ≤ c.loop-place.place-index = omega (arith, c.loop-place-test.false) in
    are_mixed c.args.paths.now c.loop-place.mixed.items c.order-order.result.now c.loop-place.place-index c.order-order.ensures c.loop-place.invariant.count ended c.loop-place.invariant.each
