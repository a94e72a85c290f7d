use Rattle.std.proofs.Common.{◌≡◌, map, take}
use Rattle.xsd_declared.specs.Walks.{step_in}
use Rattle.xsd_declared.proofs.walks.joined.Given as goal

abbrev pub invariant-loop-step : goal.invariant-loop-step
invariant-loop-step l = l.steps.items ≡ map (step_in l.fn.others) (take l.step-index l.first)
