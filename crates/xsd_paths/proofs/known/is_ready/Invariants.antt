use Rattle.std.proofs.Common.{◌≡◌, true, take}
use Rattle.std.specs.List.{list_all}
use Rattle.xsd_steps.specs.Steps.{steps}
use Rattle.xsd_paths.specs.Marks.{is_marked}
use Rattle.xsd_paths.specs.Paths.{leads_to}
use Rattle.xsd_paths.proofs.known.is_ready.Given as goal

abbrev pub invariant-loop-step : goal.invariant-loop-step
invariant-loop-step l = list_all (leads_to (is_marked l.fn.marks)) (take l.step-index (steps l.fn.steps l.fn.place)) ≡ true
