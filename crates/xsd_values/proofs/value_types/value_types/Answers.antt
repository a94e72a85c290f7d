use Rattle.std.proofs.Common.{◌≡◌, ◌≤◌, Option, None, List, get_or, length, set, refl, ap, ◌∙◌, arith}
use Rattle.xsd_tree.specs.declared.node.Node.{Node}
use Rattle.xsd_components.specs.declared.type_at.TypeAt.{TypeAt}
use Rattle.xsd_values.specs.Told.{value_by, value_told}
use Rattle.xsd_values.proofs.Walks.{are_values, count_next, tells_next, value_next, value_of_node}
use Rattle.xsd_values.proofs.value_types.value_types.Goals as goal

pub loop-place-preserved : goal.loop-place-preserved
loop-place-preserved c =
    let ns = c.args.paths.now in
    let order = c.order-order.result.now in
    let k = c.loop-place.place-index in
    let old = c.loop-place.values.items in
    let value = c.in_ok-value.value in
    let place = get_or order k 0 in
    let before = c.loop-place.invariant in
    let value_is : value ≡ value_by ns (value_told old) place =
    c.in_ok-value.ensures
    ∙ ap (λ (x : List Node). value_by x (value_told c.as_slice.result.now) place) c.schema-schema.ensures
    ∙ ap (λ (l : List (Option TypeAt)). value_by ns (value_told l) place) c.as_slice.ensures.value in
    record {
      count = count_next old (set old place value) (length ns) place value before.count refl;
      each = tells_next ns None (value_of_node ns) order k old (set old place value) value c.order-order.ensures c.loop-place-test.true before.count before.each refl
          (value_is ∙ value_next ns order k old c.order-order.ensures c.loop-place-test.true before.count before.each);
    }

pub returns : goal.returns
returns c =
    let ended : length c.order-order.result.now ≤ c.loop-place.place-index = omega (arith, c.loop-place-test.false) in
    are_values c.args.paths.now c.loop-place.values.items c.order-order.result.now c.loop-place.place-index c.order-order.ensures c.loop-place.invariant.count ended c.loop-place.invariant.each
