use Rattle.std.proofs.Common.{◌≡◌, map, take}
use Rattle.xsd_declared.specs.Walks.{settled}
use Rattle.xsd_declared.proofs.walks.settled_all.Given as goal

abbrev pub invariant-loop-step : goal.invariant-loop-step
invariant-loop-step l = l.types.items ≡ map settled (take l.step-index l.steps)
