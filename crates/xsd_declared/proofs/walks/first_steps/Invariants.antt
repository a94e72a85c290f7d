use Rattle.std.proofs.Common.{◌≡◌, map}
use Rattle.xsd_document.proofs.Below.{below}
use Rattle.xsd_declared.specs.Decls.{type_step}
use Rattle.xsd_declared.proofs.walks.first_steps.Given as goal

abbrev pub invariant-loop-place : goal.invariant-loop-place
invariant-loop-place l = l.steps.items ≡ map (type_step l.fn.schema) (below l.place)
