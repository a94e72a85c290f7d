use Rattle.exi_tables.proofs.Counts.{least_here, least_past}
use Rattle.exi_tables.proofs.live.least_under.Goals as goal

pub loop-value-preserved : goal.loop-value-preserved
loop-value-preserved c =
    least_here c.args.name c.args.text.now c.args.live.now c.loop-value.value-index c.value-item.result c.loop-value.least c.or_less.result c.is_value.result
    c.loop-value-test.true c.value-item.is c.is_value.ensures c.if-not-is_value.false c.loop-value.invariant c.or_less.ensures

pub loop-value-preserved-then-not-is_value : goal.loop-value-preserved-then-not-is_value
loop-value-preserved-then-not-is_value c =
    least_past c.args.name c.args.text.now c.args.live.now c.loop-value.value-index c.value-item.result c.loop-value.least c.is_value.result
    c.loop-value-test.true c.value-item.is c.is_value.ensures c.if-not-is_value.true c.loop-value.invariant
