use Rattle.std.proofs.Common.{◌≡◌, ◌≤◌, List, length, subst, arith}
use Rattle.xsd_tree.specs.declared.node.Node.{Node}
use Rattle.xsd_paths.specs.Paths.{IsOrder}
use Rattle.xsd_simple.proofs.Table.{all_filled, filled_next, next_whole}
use Rattle.xsd_simple.proofs.known.Known.of.Goals as goal

pub look_at-requires-clause-whole : goal.look_at-requires-clause-whole
look_at-requires-clause-whole c = next_whole c.args.values.now c.order-order.result.now c.loop-place.place-index (subst (λ (x : List Node). IsOrder x c.order-order.result.now) c.paths.ensures c.order-order.ensures) c.loop-place-test.true

pub loop-place-preserved : goal.loop-place-preserved
loop-place-preserved c =
    filled_next c.args.values.now c.order-order.result.now c.loop-place.place-index (subst (λ (x : List Node). IsOrder x c.order-order.result.now) c.paths.ensures c.order-order.ensures) c.loop-place.forms c.look_at.new.forms c.loop-place.known.entries.items c.look_at.new.self.entries.items c.loop-place.known.places.items c.look_at.new.self.places.items c.loop-place.invariant c.loop-place-test.true
    c.in_ok-look_at.ensures.kept c.in_ok-look_at.ensures.simples c.in_ok-look_at.ensures.places

pub returns : goal.returns
returns c =
    let ended : length c.order-order.result.now ≤ c.loop-place.place-index = omega (arith, c.loop-place-test.false) in
    all_filled c.args.values.now c.order-order.result.now c.loop-place.place-index (subst (λ (x : List Node). IsOrder x c.order-order.result.now) c.paths.ensures c.order-order.ensures) c.loop-place.forms c.loop-place.known.entries.items c.loop-place.known.places.items c.loop-place.invariant ended
