use Rattle.std.proofs.lemmas.Result.{err_from_is_err_and}
use Rattle.xsd_file.specs.Words.{known_in}
use Rattle.exi_run.proofs.Serving.{counted_err, counted_ok, starved_document}
use Rattle.exi_run.proofs.count.count_bytes.Goals as goal

pub returns-in_err-put_counts-in-Ok-clause-counted : goal.returns-in_err-put_counts-in-Ok-clause-counted
returns-in_err-put_counts-in-Ok-clause-counted g c =
    let p = err_from_is_err_and c.from_residual.result c.from_residual.ensures.1 in
    rw (p.1, p.2) (counted_err c.in_err-put_counts-in-Ok.field-0.0 c.args.bytes.now (known_in c.in-Ok.schema) (g.O.Sink.taken c.args.out.now) (g.O.Sink.taken c.put_counts.new.out) c.in-Ok.ensures c.in_err-put_counts-in-Ok.ensures.put)

pub returns-in_ok-put_counts-in-Ok-clause-counted : goal.returns-in_ok-put_counts-in-Ok-clause-counted
returns-in_ok-put_counts-in-Ok-clause-counted g c = counted_ok c.args.bytes.now (known_in c.in-Ok.schema) (g.O.Sink.taken c.args.out.now) (g.O.Sink.taken c.put_counts.new.out) c.in-Ok.ensures c.in_ok-put_counts-in-Ok.ensures.put

pub returns-in-Err-Memory-clause-counted : goal.returns-in-Err-Memory-clause-counted
returns-in-Err-Memory-clause-counted g c = starved_document c.one_document.ensures.there c.args.bytes.now (g.O.Sink.taken c.args.out.now)
