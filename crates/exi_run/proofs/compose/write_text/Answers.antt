use Rattle.std.proofs.lemmas.Result.{err_from_is_err_and}
use Rattle.exi_run.specs.Tasks.{gathered}
use Rattle.exi_run.specs.Wishes.{wish_of}
use Rattle.exi_run.proofs.Writes.{put_err, put_ok, write_err}
use Rattle.exi_run.proofs.compose.write_text.Goals as goal

pub returns-in_err-stream-clause-written : goal.returns-in_err-stream-clause-written
returns-in_err-stream-clause-written g c =
    let p = err_from_is_err_and c.from_residual.result c.from_residual.ensures.1 in
    rw (p.1, p.2) (write_err c.in_err-stream.field-0.0 (wish_of (gathered c.args.writing.now.given)) c.args.schema c.args.text.now (g.O.Sink.taken c.args.out.now) c.in_err-stream.ensures)

pub returns-in_err-put_stream-clause-written : goal.returns-in_err-put_stream-clause-written
returns-in_err-put_stream-clause-written g c =
    let p = err_from_is_err_and c.from_residual-in_err-put_stream.result c.from_residual-in_err-put_stream.ensures.1 in
    rw (p.1, p.2) (put_err c.in_err-put_stream.field-0.0 (wish_of (gathered c.args.writing.now.given)) c.args.schema c.args.text.now c.in_ok-stream.stream (g.O.Sink.taken c.args.out.now) (g.O.Sink.taken c.put_stream.new.out) c.in_ok-stream.ensures c.in_err-put_stream.ensures.put)

pub returns-clause-written : goal.returns-clause-written
returns-clause-written g c = put_ok (wish_of (gathered c.args.writing.now.given)) c.args.schema c.args.text.now c.in_ok-stream.stream (g.O.Sink.taken c.args.out.now) (g.O.Sink.taken c.put_stream.new.out) c.in_ok-stream.ensures c.in_ok-put_stream.ensures.put
