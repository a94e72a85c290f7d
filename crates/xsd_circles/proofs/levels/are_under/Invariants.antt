use Rattle.std.proofs.Common.{◌≡◌, drop}
use Rattle.xsd_circles.specs.Levels.{are_under}
use Rattle.xsd_circles.proofs.levels.are_under.Given as goal

abbrev pub invariant-loop-step : goal.invariant-loop-step
invariant-loop-step l = are_under l.fn.levels l.fn.bound (drop l.step-index l.fn.steps) ≡ are_under l.fn.levels l.fn.bound l.fn.steps
