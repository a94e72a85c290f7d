use Rattle.std.specs.Prelude.{Some}
use Rattle.std.proofs.lemmas.Result.{err_from_is_err_and}
use Rattle.exi_run.specs.Answers.{Stands}
use Rattle.exi_run.specs.Dues.{OwedOfText}
use Rattle.exi_run.specs.Tasks.{gathered}
use Rattle.exi_run.specs.Wishes.{wish_of}
use Rattle.exi_run.proofs.Serving.{on_ok, read_both, read_none, stands_by, text_did, text_owes}
use Rattle.exi_run.proofs.compose.write_by.Goals as goal

pub returns-in_err-schema-clause-written : goal.returns-in_err-schema-clause-written
returns-in_err-schema-clause-written g c =
    let p = err_from_is_err_and c.from_residual.result c.from_residual.ensures.1 in
    rw (p.1, p.2) (read_none c.one_document.ensures.there (OwedOfText (wish_of (gathered c.args.writing.now.given))) (text_owes (wish_of (gathered c.args.writing.now.given))) c.args.document c.args.text.now c.in_err-schema.field-0.0 (g.O.Sink.taken c.args.out.now) c.in_err-schema.ensures.informs)

pub returns-clause-written : goal.returns-clause-written
returns-clause-written g c =
    read_both (OwedOfText (wish_of (gathered c.args.writing.now.given))) c.args.document c.args.text.now c.in_ok-schema.schema c.write_text.result (g.O.Sink.taken c.args.out.now) (g.O.Sink.taken c.write_text.new.out) c.in_ok-schema.ensures.informs
    (text_did (wish_of (gathered c.args.writing.now.given)) (Some c.in_ok-schema.schema) c.args.text.now c.write_text.result (g.O.Sink.taken c.args.out.now) (g.O.Sink.taken c.write_text.new.out) c.write_text.ensures.written)

pub returns-clause-stands : goal.returns-clause-stands
returns-clause-stands g c = on_ok c.write_text.result (Stands c.args.document) (stands_by c.one_document.ensures.one c.args.document c.in_ok-schema.schema c.in_ok-schema.ensures.schema c.in_ok-schema.ensures.informs)
