use Rattle.xsd_circles.proofs.Reaching.{rise_moved}
use Rattle.xsd_circles.proofs.circles.Circles.of.Goals as goal

pub invariant_of-result : goal.invariant_of-result
invariant_of-result c = λ falls. rise_moved c.args.steps.now c.as_slice.result.now c.in_ok-levels.levels.items c.as_slice.ensures.value (c.never_rise-falls.ensures falls)
