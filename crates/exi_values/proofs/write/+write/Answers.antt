use Rattle.std.proofs.Common.{rules}
use Rattle.exi_names.specs.Datatypes.{represented}
use Rattle.exi_names.specs.Seen.{seen, vals}
use Rattle.exi_items.proofs.Pieces.{on_err, then_front}
use Rattle.exi_typed.proofs.Writes.{always}
use Rattle.exi_values.proofs.WriteRows.{few_values, in_row_ends, in_row_goes, in_row_leaves, in_row_starts, in_row_stops, item_form, item_room, item_xml, step_at, took_at}
use Rattle.exi_values.proofs.write.+write.Goals as goal

pub write_items-loop-value-init : goal.write_items-loop-value-init
write_items-loop-value-init g t c = record {
  row = in_row_starts (represented c.args.item.now) c.args.align c.args.name (vals c.args.values.now) (g.T.Tables.held c.args.tables.now) c.args.out.now c.requires.form c.requires.xml c.requires.few c.requires.name;
  aligned = c.requires.aligned;
}

pub write_items-write_value-requires : goal.write_items-write_value-requires
write_items-write_value-requires g t c κs within =
    let i = c.loop-value.value-index in
    let v = c.value-item.result in
    let q = g.T.Tables.held c.loop-value.tables in
    let row = c.loop-value.invariant.row in
    let parts = step_at c.args.values.now.items.items c.deref-value-items.result.now i v c.deref-value-items.ensures.value c.loop-value-test.true c.value-item.is in
    let form = item_form (represented c.args.item.now) c.args.align c.args.name (vals c.args.values.now) (g.T.Tables.held c.args.tables.now) c.args.out.now i q c.loop-value.out (seen v) row parts in
    let xml = item_xml (represented c.args.item.now) c.args.align c.args.name (vals c.args.values.now) (g.T.Tables.held c.args.tables.now) c.args.out.now i q c.loop-value.out (seen v) row parts in
    let few = item_room (represented c.args.item.now) c.args.align c.args.name (vals c.args.values.now) (g.T.Tables.held c.args.tables.now) c.args.out.now i q c.loop-value.out (seen v) row parts in
    (search rules, (search rules, (form, (xml, (row.named, (few, c.loop-value.invariant.aligned))))))

pub write_items-returns-in_err-write_value-clause-err : goal.write_items-returns-in_err-write_value-clause-err
write_items-returns-in_err-write_value-clause-err g t c =
    let i = c.loop-value.value-index in
    let v = c.value-item.result in
    let parts = step_at c.args.values.now.items.items c.deref-value-items.result.now i v c.deref-value-items.ensures.value c.loop-value-test.true c.value-item.is in
    always c.from_residual.result (in_row_stops (represented c.args.item.now) c.args.align c.args.name (vals c.args.values.now) (g.T.Tables.held c.args.tables.now) c.args.out.now i (g.T.Tables.held c.loop-value.tables) c.loop-value.out (seen v) c.loop-value.invariant.row parts c.write_value.new.out c.in_err-write_value.ensures.err)

pub write_items-returns-in_err-write_value-clause-left : goal.write_items-returns-in_err-write_value-clause-left
write_items-returns-in_err-write_value-clause-left g t c =
    let i = c.loop-value.value-index in
    let v = c.value-item.result in
    let parts = step_at c.args.values.now.items.items c.deref-value-items.result.now i v c.deref-value-items.ensures.value c.loop-value-test.true c.value-item.is in
    always c.from_residual.result (in_row_leaves (represented c.args.item.now) c.args.align c.args.name (vals c.args.values.now) (g.T.Tables.held c.args.tables.now) c.args.out.now i (g.T.Tables.held c.loop-value.tables) c.loop-value.out (seen v) c.loop-value.invariant.row parts (g.T.Tables.held c.write_value.new.tables) c.in_err-write_value.ensures.left)

pub write_items-loop-value-preserved : goal.write_items-loop-value-preserved
write_items-loop-value-preserved g t c =
    let i = c.loop-value.value-index in
    let v = c.value-item.result in
    let parts = step_at c.args.values.now.items.items c.deref-value-items.result.now i v c.deref-value-items.ensures.value c.loop-value-test.true c.value-item.is in
    let took = took_at c.args.values.now.items.items c.deref-value-items.result.now i v c.deref-value-items.ensures.value c.loop-value-test.true c.value-item.is in
    record {
      row = in_row_goes (represented c.args.item.now) c.args.align c.args.name (vals c.args.values.now) (g.T.Tables.held c.args.tables.now) c.args.out.now i (g.T.Tables.held c.loop-value.tables) c.loop-value.out (seen v) c.loop-value.invariant.row parts (g.T.Tables.held c.write_value.new.tables) c.write_value.new.out took c.in_ok-write_value.ensures.tables c.in_ok-write_value.ensures.ok;
      aligned = c.in_ok-write_value.ensures.aligned;
    }

pub write_items-returns-clause-ok : goal.write_items-returns-clause-ok
write_items-returns-clause-ok g t c =
    let le = few_values c.args.values.now.items.items c.deref-value-items.result.now c.loop-value.value-index c.deref-value-items.ensures.value c.loop-value-test.false in
    (in_row_ends (represented c.args.item.now) c.args.align c.args.name (vals c.args.values.now) (g.T.Tables.held c.args.tables.now) c.args.out.now c.loop-value.value-index (g.T.Tables.held c.loop-value.tables) c.loop-value.out c.loop-value.invariant.row le).0

pub write_items-returns-clause-tables : goal.write_items-returns-clause-tables
write_items-returns-clause-tables g t c =
    let le = few_values c.args.values.now.items.items c.deref-value-items.result.now c.loop-value.value-index c.deref-value-items.ensures.value c.loop-value-test.false in
    (in_row_ends (represented c.args.item.now) c.args.align c.args.name (vals c.args.values.now) (g.T.Tables.held c.args.tables.now) c.args.out.now c.loop-value.value-index (g.T.Tables.held c.loop-value.tables) c.loop-value.out c.loop-value.invariant.row le).1

pub write_items-returns-clause-aligned : goal.write_items-returns-clause-aligned
write_items-returns-clause-aligned g t c = c.loop-value.invariant.aligned

pub write_values-returns-clause-err : goal.write_values-returns-clause-err
write_values-returns-clause-err g t c = on_err c.write_items.result _ _ (then_front c.args.out.now _ _ c.write_count.new.out c.write_items.new.out c.in_ok-write_count.ensures.ok) c.write_items.ensures.err
