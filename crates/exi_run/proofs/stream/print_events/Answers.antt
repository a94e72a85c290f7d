use Rattle.std.proofs.Common.{refl}
use Rattle.std.proofs.lemmas.Result.{err_from_is_err_and}
use Rattle.exi_run.proofs.Bodies.{did_all, fault_said, halted, halted_rose, never_falls, none_read}
use Rattle.std.specs.Prelude.{option_copied}
use Rattle.exi_run.proofs.Bodies.{basis_in}
use Rattle.exi_run.proofs.stream.print_events.Goals as goal

pub returns-in-Err-Fault-clause-printed : goal.returns-in-Err-Fault-clause-printed
returns-in-Err-Fault-clause-printed g c =
    rw c.in-Err-Fault.field-0-is (fault_said c.args.form (basis_in c.args.words.now c.args.schema (option_copied c.args.name)) c.args.bytes.now c.in-Err-Fault.fault (g.O.Sink.taken c.args.out.now) (rw c.in-Err-Fault.field-0-is at c.in-Err-Fault.ensures.read))

pub returns-in-Err-Memory-clause-printed : goal.returns-in-Err-Memory-clause-printed
returns-in-Err-Memory-clause-printed g c = none_read c.one_whole.ensures.there c.args.form (basis_in c.args.words.now c.args.schema (option_copied c.args.name)) c.args.bytes.now (g.O.Sink.taken c.args.out.now)

pub returns-in_err-book-clause-printed : goal.returns-in_err-book-clause-printed
returns-in_err-book-clause-printed g c =
    let p = err_from_is_err_and c.from_residual.result c.from_residual.ensures.1 in
    rw (p.1, p.2) (none_read c.one_whole.ensures.there c.args.form (basis_in c.args.words.now c.args.schema (option_copied c.args.name)) c.args.bytes.now (g.O.Sink.taken c.args.out.now))

pub returns-in_err-end-clause-printed : goal.returns-in_err-end-clause-printed
returns-in_err-end-clause-printed g c =
    let p = err_from_is_err_and c.from_residual-in_err-end.result c.from_residual-in_err-end.ensures.1 in
    let b = rw c.in_ok-book.ensures at c.in_err-end.ensures in
    rw (p.1, p.2) (halted c.in_err-end.field-0.0 c.args.form (basis_in c.args.words.now c.args.schema (option_copied c.args.name)) c.args.bytes.now c.in-Ok.header (g.O.Sink.taken c.args.out.now) (g.O.Sink.taken c.print_body.new.out) (g.O.Sink.faults c.args.out.now) (g.O.Sink.faults c.print_body.new.out) c.in-Ok.ensures.read b)

pub returns-in_err-end-clause-later : goal.returns-in_err-end-clause-later
returns-in_err-end-clause-later g c = never_falls c.args.form c.print_body.result _ (g.O.Sink.taken c.args.out.now) (g.O.Sink.taken c.print_body.new.out) (g.O.Sink.faults c.args.out.now) (g.O.Sink.faults c.print_body.new.out) c.print_body.ensures

pub returns-in_err-end-clause-write : goal.returns-in_err-end-clause-write
returns-in_err-end-clause-write g c =
    let p = err_from_is_err_and c.from_residual-in_err-end.result c.from_residual-in_err-end.ensures.1 in
    halted_rose c.in_err-end.field-0.0 c.args.form c.from_residual-in_err-end.result _ (g.O.Sink.taken c.args.out.now) (g.O.Sink.taken c.print_body.new.out) (g.O.Sink.faults c.args.out.now) (g.O.Sink.faults c.print_body.new.out) c.in_err-end.ensures (rw (p.1, p.2) refl)

pub returns-clause-printed : goal.returns-clause-printed
returns-clause-printed g c =
    let b = rw c.in_ok-book.ensures at c.in_ok-end.ensures in
    rw c.of.ensures (did_all c.args.form (basis_in c.args.words.now c.args.schema (option_copied c.args.name)) c.args.bytes.now c.in-Ok.header c.in_ok-end.end (g.O.Sink.taken c.args.out.now) (g.O.Sink.taken c.print_body.new.out) (g.O.Sink.faults c.args.out.now) (g.O.Sink.faults c.print_body.new.out) c.in-Ok.ensures.read b)

pub returns-clause-later : goal.returns-clause-later
returns-clause-later g c = never_falls c.args.form c.print_body.result _ (g.O.Sink.taken c.args.out.now) (g.O.Sink.taken c.print_body.new.out) (g.O.Sink.faults c.args.out.now) (g.O.Sink.faults c.print_body.new.out) c.print_body.ensures
