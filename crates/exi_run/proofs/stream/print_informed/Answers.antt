use Rattle.std.proofs.lemmas.Result.{err_from_is_err_and}
use Rattle.exi_run.specs.Tasks.{terms_told}
use Rattle.exi_run.specs.Dues.{OwedOfStream}
use Rattle.exi_run.proofs.Serving.{read_both, read_none, stream_owes}
use Rattle.exi_run.proofs.stream.print_informed.Goals as goal

pub returns-in_err-schema-clause-printed : goal.returns-in_err-schema-clause-printed
returns-in_err-schema-clause-printed g c =
    let p = err_from_is_err_and c.from_residual.result c.from_residual.ensures.1 in
    rw (p.1, p.2) (read_none c.one_document.ensures.there (OwedOfStream c.args.telling.now.form (terms_told c.args.telling.now)) (stream_owes c.one_whole.ensures.there c.args.telling.now.form (terms_told c.args.telling.now)) c.args.document c.args.bytes.now c.in_err-schema.field-0.0 (g.O.Sink.taken c.args.out.now) c.in_err-schema.ensures.informs)

pub returns-clause-printed : goal.returns-clause-printed
returns-clause-printed g c = read_both (OwedOfStream c.args.telling.now.form (terms_told c.args.telling.now)) c.args.document c.args.bytes.now c.in_ok-schema.schema c.print_stream.result (g.O.Sink.taken c.args.out.now) (g.O.Sink.taken c.print_stream.new.out) c.in_ok-schema.ensures.informs c.print_stream.ensures.printed
