use Rattle.std.proofs.Common.{◌≡◌, length, ap, ◌∙◌, arith}
use Rattle.xsd_steps.specs.Groups.{group_named}
use Rattle.xsd_steps.specs.Table.{namer, owner}
use Rattle.xsd_steps.proofs.Led.{made, put_count, put_next, steps_none}
use Rattle.xsd_steps.proofs.LiesIn.{named_by}
use Rattle.xsd_steps.proofs.steps.Steps.of.Goals as goal

pub loop-place-init : goal.loop-place-init
loop-place-init c = record {
  count = c.in_ok-lists.ensures.count;
  each = λ i less. c.in_ok-lists.ensures.each i less ∙ steps_none c.args.schema.now i;
}

pub loop-place-preserved : goal.loop-place-preserved
loop-place-preserved c =
    let ns = c.args.schema.now in
    let lists = c.loop-place.lists.items in
    let place = c.loop-place.place in
    let group = c.namer-group.result in
    let group_is : group ≡ namer ns place (owner ns place) =
    named_by c.nodes-nodes.result.now ns c.in_ok-owners.owners.items c.deref-owner-items.result.now _ place group
    (c.nodes-nodes.ensures.nodes ∙ c.document.ensures) c.deref-owner-items.ensures.value c.in_ok-owners.ensures c.loop-place-test.true c.namer-group.ensures in record {
      count = ap length c.in_ok-put.ensures ∙ put_count group (group_named ns place) lists ∙ c.loop-place.invariant.count;
      each = put_next ns lists c.put.new.lists.items group place group_is c.loop-place.invariant.count c.loop-place.invariant.each c.in_ok-put.ensures;
    }

pub invariant_of-result : goal.invariant_of-result
invariant_of-result c =
    let same : c.nodes-nodes.result.now ≡ c.args.schema.now = c.nodes-nodes.ensures.nodes ∙ c.document.ensures in
    let few : length c.deref-owner-items.result.now ≡ length c.args.schema.now = ap length c.deref-owner-items.ensures.value ∙ c.in_ok-owners.ensures.count ∙ ap length same in
    let ended : c.loop-place.place ≡ length c.args.schema.now = omega (arith, few, c.loop-place-test.false, c.loop-place.auto.place-end) in
    made c.args.schema.now c.loop-place.lists.items c.loop-place.place c.loop-place.invariant.count c.loop-place.invariant.each ended
