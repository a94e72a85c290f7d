use Rattle.std.proofs.Common.{◌+◌, ◌∙◌}
use Rattle.std.proofs.lemmas.Result.{err_from_is_err_and}
use Rattle.exi_names.specs.Datatypes.{Representation, represented}
use Rattle.exi_names.specs.Seen.{seen, vals}
use Rattle.exi_tables.specs.Partitions.{Partitions}
use Rattle.exi_typed.specs.ReadStates.{ReadState, read_state}
use Rattle.exi_values.proofs.Rows.{all_leaves, in_list_goes, in_list_starts, item_few, item_leaves, item_room, list_ends, list_stops}
use Rattle.exi_values.proofs.read.+read.Goals as goal

pub read_list-loop-init : goal.read_list-loop-init
read_list-loop-init g t c =
    let item : Representation = represented c.args.item.now in
    let held : Partitions = g.T.Tables.held c.args.tables.now in
    let begun : ReadState = read_state c.read_count.new.input c.read_count.new.meter held in
    let start : ReadState = read_state c.args.input.now c.args.meter.now held in
    let row = in_list_starts item c.args.align c.args.name begun c.in_ok-count.count start (vals c.new-items.result) c.new-items.ensures (c.in_ok-count.ensures.read held) c.requires.room c.in_ok-count.ensures.within c.requires.name in
    record {
      row = row;
      named = row.name_is;
      few = item_few item c.args.align c.args.name begun c.in_ok-count.count 0 (vals c.new-items.result) begun row;
      room = item_room item c.args.align c.args.name begun c.in_ok-count.count 0 (vals c.new-items.result) begun row;
      aligned = λ e. c.in_ok-count.ensures.phase ∙ c.requires.aligned e;
      bytes = c.in_ok-count.ensures.bytes;
    }

pub read_list-returns-in_err-value-clause-read : goal.read_list-returns-in_err-value-clause-read
read_list-returns-in_err-value-clause-read g t c =
    let p = err_from_is_err_and c.from_residual-in_err-value.result c.from_residual-in_err-value.ensures.1 in
    let held : Partitions = g.T.Tables.held c.args.tables.now in
    rw (p.1, p.2) (list_stops (represented c.args.item.now) c.args.align c.args.name (read_state c.read_count.new.input c.read_count.new.meter held) c.in_ok-count.count (λ v. (seen v, read_state c.read_value.new.input c.read_value.new.meter (g.T.Tables.held c.read_value.new.tables))) (λ v. (seen v, read_state c.read_value.new.input c.read_value.new.meter (g.T.Tables.held c.read_value.new.tables))) c.read_value.new.meter c.in_err-value.field-0.0 c.loop.counter (vals c.loop.items)
    (read_state c.args.input.now c.args.meter.now held) (read_state c.loop.input c.loop.meter (g.T.Tables.held c.loop.tables)) (c.in_ok-count.ensures.read held) c.loop.invariant.row c.loop-test.true c.in_err-value.ensures.read)

pub read_list-returns-in_err-value-clause-tables : goal.read_list-returns-in_err-value-clause-tables
read_list-returns-in_err-value-clause-tables g t c =
    let p = err_from_is_err_and c.from_residual-in_err-value.result c.from_residual-in_err-value.ensures.1 in
    let held : Partitions = g.T.Tables.held c.args.tables.now in
    rw (p.1, p.2) (item_leaves (represented c.args.item.now) c.args.align c.args.name (read_state c.read_count.new.input c.read_count.new.meter held) c.in_ok-count.count c.in_err-value.field-0.0 c.loop.counter (vals c.loop.items)
    (read_state c.args.input.now c.args.meter.now held) (read_state c.loop.input c.loop.meter (g.T.Tables.held c.loop.tables)) (g.T.Tables.held c.read_value.new.tables) (c.in_ok-count.ensures.read held) c.loop.invariant.row c.in_err-value.ensures.tables)

pub read_list-returns-in_err-value-clause-bytes : goal.read_list-returns-in_err-value-clause-bytes
read_list-returns-in_err-value-clause-bytes g t c = c.in_err-value.ensures.bytes ∙ c.loop.invariant.bytes

pub read_list-returns-in_err-push-clause-tables : goal.read_list-returns-in_err-push-clause-tables
read_list-returns-in_err-push-clause-tables g t c =
    let p = err_from_is_err_and c.from_residual-in_err-push.result c.from_residual-in_err-push.ensures.1 in
    let held : Partitions = g.T.Tables.held c.args.tables.now in
    rw (p.1, p.2) (all_leaves (represented c.args.item.now) c.args.align c.args.name (read_state c.read_count.new.input c.read_count.new.meter held) c.in_ok-count.count c.loop.counter (vals c.loop.items)
    (read_state c.args.input.now c.args.meter.now held) (read_state c.loop.input c.loop.meter (g.T.Tables.held c.loop.tables)) (read_state c.read_value.new.input c.read_value.new.meter (g.T.Tables.held c.read_value.new.tables)) (seen c.in_ok-value.value)
    (c.in_ok-count.ensures.read held) c.loop.invariant.row c.loop-test.true c.in_ok-value.ensures.read)

pub read_list-returns-in_err-push-clause-bytes : goal.read_list-returns-in_err-push-clause-bytes
read_list-returns-in_err-push-clause-bytes g t c = c.in_ok-value.ensures.bytes ∙ c.loop.invariant.bytes

pub read_list-loop-preserved : goal.read_list-loop-preserved
read_list-loop-preserved g t c =
    let item : Representation = represented c.args.item.now in
    let held : Partitions = g.T.Tables.held c.args.tables.now in
    let begun : ReadState = read_state c.read_count.new.input c.read_count.new.meter held in
    let at : ReadState = read_state c.loop.input c.loop.meter (g.T.Tables.held c.loop.tables) in
    let end : ReadState = read_state c.read_value.new.input c.read_value.new.meter (g.T.Tables.held c.read_value.new.tables) in
    let row = in_list_goes item c.args.align c.args.name begun c.in_ok-count.count c.loop.counter (vals c.loop.items) (vals c.push.new.self) at end (seen c.in_ok-value.value) c.loop.invariant.row c.loop-test.true c.in_ok-value.ensures.read c.in_ok-push.ensures.ok in
    record {
      row = row;
      named = row.name_is;
      few = item_few item c.args.align c.args.name begun c.in_ok-count.count (c.loop.counter + 1) (vals c.push.new.self) end row;
      room = item_room item c.args.align c.args.name begun c.in_ok-count.count (c.loop.counter + 1) (vals c.push.new.self) end row;
      aligned = c.in_ok-value.ensures.aligned;
      bytes = c.in_ok-value.ensures.bytes ∙ c.loop.invariant.bytes;
    }

pub read_list-returns-clause-read : goal.read_list-returns-clause-read
read_list-returns-clause-read g t c =
    let held : Partitions = g.T.Tables.held c.args.tables.now in
    list_ends (represented c.args.item.now) c.args.align c.args.name (read_state c.read_count.new.input c.read_count.new.meter held) c.in_ok-count.count c.loop.counter (vals c.loop.items)
    (read_state c.args.input.now c.args.meter.now held) (read_state c.loop.input c.loop.meter (g.T.Tables.held c.loop.tables)) (seen c.whole.result) (c.in_ok-count.ensures.read held) c.loop.invariant.row c.loop-test.false c.whole.ensures

pub read_list-returns-clause-bytes : goal.read_list-returns-clause-bytes
read_list-returns-clause-bytes g t c = c.loop.invariant.bytes

pub read_list-returns-clause-aligned : goal.read_list-returns-clause-aligned
read_list-returns-clause-aligned g t c = c.loop.invariant.aligned
