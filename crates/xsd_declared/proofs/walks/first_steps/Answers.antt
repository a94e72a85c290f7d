use Rattle.std.proofs.Common.{◌≡◌, length, ap, ◌∙◌, arith}
use Rattle.xsd_declared.specs.Decls.{type_step}
use Rattle.xsd_declared.proofs.Walked.{steps_all, steps_more, steps_none}
use Rattle.xsd_declared.proofs.walks.first_steps.Goals as goal

pub loop-place-init : goal.loop-place-init
loop-place-init c = c.new-steps.ensures.items ∙ steps_none (type_step c.args.schema.now)

pub loop-place-preserved : goal.loop-place-preserved
loop-place-preserved c =
    steps_more (type_step c.args.schema.now) c.loop-place.place c.loop-place.steps.items c.push.new.self.items c.in_ok-type_step.field-0
    c.loop-place.invariant c.in_ok-type_step.ensures c.in_ok-push.ensures.items

pub returns : goal.returns
returns c =
    let few : length c.nodes-place-end.result.now ≡ length c.args.schema.now = ap length (c.nodes-place-end.ensures.nodes ∙ c.document.ensures) in
    let ended : c.loop-place.place ≡ length c.args.schema.now = omega (arith, few, c.loop-place.auto.place-end) in
    steps_all (type_step c.args.schema.now) c.args.schema.now c.loop-place.place c.loop-place.steps.items ended c.loop-place.invariant
