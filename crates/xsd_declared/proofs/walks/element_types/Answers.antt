use Rattle.std.proofs.Common.{map, ap, ◌∙◌}
use Rattle.xsd_declared.specs.Walks.{settled}
use Rattle.xsd_declared.proofs.Walked.{are_types}
use Rattle.xsd_declared.proofs.walks.element_types.Goals as goal

pub returns : goal.returns
returns c = are_types c.args.schema.now c.in_ok-steps.steps.items c.in_ok-types.types.items c.in_ok-steps.ensures (c.in_ok-types.ensures ∙ ap (map settled) c.as_slice.ensures.value)
