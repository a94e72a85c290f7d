use Rattle.std.proofs.Common.{length}
use Rattle.xsd_paths.proofs.Marking.{known_after, longer_after, settled_after}
use Rattle.xsd_paths.proofs.known.Known.look_at_all.Goals as goal

pub loop-place-preserved : goal.loop-place-preserved
loop-place-preserved c =
    let ns = c.args.steps.now in
    let order = c.loop-place.self.order.items in
    let marks = c.loop-place.self.marks.items in
    let place = c.loop-place.place in
    let first = length c.args.self.now.order.items in record {
      known = known_after ns order c.look.new.self.order.items marks c.look.new.self.marks.items place c.in_ok-look.ensures.order c.in_ok-look.ensures.marks c.loop-place.invariant.known;
      longer = longer_after ns order c.look.new.self.order.items marks place first c.in_ok-look.ensures.order c.loop-place.invariant.longer;
      settled = settled_after ns order c.look.new.self.order.items marks c.look.new.self.marks.items place first c.in_ok-look.ensures.order c.in_ok-look.ensures.marks c.loop-place.invariant.longer c.loop-place.invariant.settled;
    }
