use Rattle.std.proofs.Common.{◌+◌, length, map, ap, ◌∙◌}
use Rattle.xsd_declared.specs.Walks.{joined_if_odd, step_in}
use Rattle.xsd_declared.proofs.Walked.{along_first, along_next, first_walked}
use Rattle.xsd_declared.proofs.walks.walked.Goals as goal

pub loop-left-init : goal.loop-left-init
loop-left-init c =
    let ns = c.args.schema.now in
    along_first ns (length c.nodes-left.result.now) c.in_ok-walked.walked.items c.in_ok-power.power.items
    (first_walked ns c.in_ok-power.power.items c.in_ok-power.ensures)
    (c.in_ok-walked.ensures ∙ c.as_slice.ensures.value)
    (ap length (c.nodes-left.ensures.nodes ∙ c.document.ensures))

pub loop-left-preserved : goal.loop-left-preserved
loop-left-preserved c =
    let ns = c.args.schema.now in
    let walked = c.loop-left.walked.items in
    let power = c.loop-left.power.items in
    along_next ns (length ns + 1) c.loop-left.left walked power c.in_ok-walked-2.walked.items c.in_ok-power-2.power.items c.loop-left.invariant
    (c.in_ok-walked-2.ensures ∙ ap (joined_if_odd c.loop-left.left walked) c.as_slice-in-loop-left.ensures.value)
    (c.in_ok-power-2.ensures
    ∙ ap (λ l. map (step_in l) c.as_slice-in-loop-left-2.result.now) c.as_slice-in-loop-left-3.ensures.value
    ∙ ap (map (step_in power)) c.as_slice-in-loop-left-2.ensures.value)
