use Rattle.std.proofs.lemmas.Result.{err_from_is_err_and}
use Rattle.exi_run.proofs.Owing.{done_all, events_err, last_err}
use Rattle.std.specs.Prelude.{option_copied}
use Rattle.exi_run.proofs.Bodies.{basis_in}
use Rattle.exi_run.proofs.stream.print_stream.Goals as goal

pub returns-in_err-end-clause-printed : goal.returns-in_err-end-clause-printed
returns-in_err-end-clause-printed g c =
    let p = err_from_is_err_and c.from_residual.result c.from_residual.ensures.1 in
    rw (p.1, p.2) (events_err c.in_err-end.field-0.0 c.args.form (basis_in c.args.words.now c.args.schema (option_copied c.args.name)) c.args.bytes.now (g.O.Sink.taken c.args.out.now) (g.O.Sink.taken c.print_events.new.out) c.in_err-end.ensures.printed)

pub returns-in_err-put_last-clause-printed : goal.returns-in_err-put_last-clause-printed
returns-in_err-put_last-clause-printed g c =
    let p = err_from_is_err_and c.from_residual-in_err-put_last.result c.from_residual-in_err-put_last.ensures.1 in
    rw (p.1, p.2) (last_err c.in_err-put_last.field-0.0 c.args.form (basis_in c.args.words.now c.args.schema (option_copied c.args.name)) c.args.bytes.now c.in_ok-end.end (g.O.Sink.taken c.args.out.now) (g.O.Sink.taken c.print_events.new.out) (g.O.Sink.taken c.put_last.new.out) c.in_ok-end.ensures.printed c.in_err-put_last.ensures.put)

pub returns-clause-printed : goal.returns-clause-printed
returns-clause-printed g c =
    rw c.status.ensures (done_all c.args.form (basis_in c.args.words.now c.args.schema (option_copied c.args.name)) c.args.bytes.now c.in_ok-end.end (g.O.Sink.taken c.args.out.now) (g.O.Sink.taken c.print_events.new.out) (g.O.Sink.taken c.put_last.new.out) c.in_ok-end.ensures.printed c.in_ok-put_last.ensures.put)
