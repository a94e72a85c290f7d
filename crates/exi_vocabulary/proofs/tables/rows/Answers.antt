use Rattle.exi_vocabulary.proofs.Rows.{rows_more}
use Rattle.exi_vocabulary.proofs.tables.rows.Goals as goal

pub loop-name-preserved : goal.loop-name-preserved
loop-name-preserved c =
    rows_more c.loop-name.rows.entries c.add_local.new.rows.entries c.args.names.now c.loop-name.name-index c.name-item.result c.loop-name-test.true c.name-item.is c.in_ok-add_local.ensures c.loop-name.invariant
