use Rattle.std.proofs.Common.{rules}
use Rattle.exi_names.specs.Datatypes.{represented}
use Rattle.exi_names.specs.Seen.{seen, vals}
use Rattle.exi_values.proofs.WriteRows.{few_values, step_at}
use Rattle.exi_pieces.proofs.ValueCharges.{charges_end, charges_go, charges_start, item_form, item_spelled}
use Rattle.exi_pieces.proofs.values.+pay.Goals as goal

pub pay_items-loop-value-init : goal.pay_items-loop-value-init
pay_items-loop-value-init t c = charges_start (represented c.args.item.now) (vals c.args.values.now) c.args.toll.now c.requires.form c.requires.spelled

pub pay_items-pay_value-requires : goal.pay_items-pay_value-requires
pay_items-pay_value-requires t c =
    let i = c.loop-value.value-index in
    let v = c.value-item.result in
    let parts = step_at c.args.values.now.items.items c.deref-value-items.result.now i v c.deref-value-items.ensures.value c.loop-value-test.true c.value-item.is in
    let form = item_form (represented c.args.item.now) (vals c.args.values.now) c.args.toll.now i c.loop-value.toll (seen v) c.loop-value.invariant parts in
    let spelled = item_spelled (represented c.args.item.now) (vals c.args.values.now) c.args.toll.now i c.loop-value.toll (seen v) c.loop-value.invariant parts in
    (search rules, (form, spelled))

pub pay_items-loop-value-preserved : goal.pay_items-loop-value-preserved
pay_items-loop-value-preserved t c =
    let i = c.loop-value.value-index in
    let v = c.value-item.result in
    let parts = step_at c.args.values.now.items.items c.deref-value-items.result.now i v c.deref-value-items.ensures.value c.loop-value-test.true c.value-item.is in
    charges_go (represented c.args.item.now) (vals c.args.values.now) c.args.toll.now i c.loop-value.toll (seen v) c.loop-value.invariant parts c.pay_value.new.toll c.pay_value.ensures

pub pay_items-returns : goal.pay_items-returns
pay_items-returns t c =
    let le = few_values c.args.values.now.items.items c.deref-value-items.result.now c.loop-value.value-index c.deref-value-items.ensures.value c.loop-value-test.false in
    charges_end (represented c.args.item.now) (vals c.args.values.now) c.args.toll.now c.loop-value.value-index c.loop-value.toll c.loop-value.invariant le
