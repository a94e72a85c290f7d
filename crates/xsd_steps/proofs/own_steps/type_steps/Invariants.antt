use Rattle.std.proofs.Common.{◌≡◌, take}
use Rattle.std.specs.List.{flat_map}
use Rattle.xsd_components.specs.References.{derivation}
use Rattle.xsd_derivations.specs.Derivations.{derived_from}
use Rattle.xsd_steps.specs.Steps.{step_to}
use Rattle.xsd_steps.proofs.own_steps.type_steps.Given as goal

abbrev pub invariant-loop-one : goal.invariant-loop-one
invariant-loop-one l = l.steps ≡ flat_map step_to (take l.one-index (derived_from l.fn.schema (derivation l.fn.schema l.fn.place)))
