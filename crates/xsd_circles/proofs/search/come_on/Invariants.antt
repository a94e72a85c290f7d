use Rattle.std.proofs.Common.{◌≡◌, drop}
use Rattle.xsd_circles.specs.Searches.{come_on, shown}
use Rattle.xsd_circles.proofs.search.come_on.Given as goal

abbrev pub invariant-loop-step : goal.invariant-loop-step
invariant-loop-step l = come_on (drop l.step-index l.fn.steps) (shown l.search) ≡ come_on l.fn.steps (shown l.fn.search)
