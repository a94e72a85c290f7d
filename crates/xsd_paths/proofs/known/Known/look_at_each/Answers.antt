use Rattle.xsd_paths.proofs.Marking.{known_after}
use Rattle.xsd_paths.proofs.known.Known.look_at_each.Goals as goal

pub loop-place-preserved : goal.loop-place-preserved
loop-place-preserved c = known_after c.args.steps.now c.loop-place.self.order.items c.look.new.self.order.items c.loop-place.self.marks.items c.look.new.self.marks.items _ c.in_ok-look.ensures.order c.in_ok-look.ensures.marks c.loop-place.invariant
