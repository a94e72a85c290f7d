use Rattle.std.proofs.Common.{◌≡◌, length, arith}
use Rattle.xsd_components.proofs.Kept.{all_below, more_below, none_below}
use Rattle.xsd_components.proofs.globals.firsts_of.Goals as goal

pub loop-place-init : goal.loop-place-init
loop-place-init c = none_below c.args.nodes.now c.new-firsts.result.entries c.new-firsts.ensures.empty

pub loop-place-preserved : goal.loop-place-preserved
loop-place-preserved c = more_below c.args.nodes.now c.loop-place.firsts.entries c.add_at.new.firsts.entries c.loop-place.place c.loop-place.invariant c.in_ok-add_at.ensures

pub returns : goal.returns
returns c =
    let ended : c.loop-place.place ≡ length c.args.nodes.now = omega (arith, c.loop-place-test.false, c.loop-place.auto.place-end) in all_below c.args.nodes.now c.loop-place.firsts.entries c.loop-place.place ended c.loop-place.invariant
