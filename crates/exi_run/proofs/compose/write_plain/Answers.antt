use Rattle.std.proofs.Common.{ap}
use Rattle.std.proofs.lemmas.Result.{err_from_is_err_and}
use Rattle.std.specs.Prelude.{None, Some, chars, option_map}
use Rattle.exi_names.specs.Events.{Rose}
use Rattle.exi_run.specs.Answers.{OfDocument, Stands}
use Rattle.exi_run.specs.Dues.{OwedOfText}
use Rattle.exi_run.specs.Tasks.{gathered, writing_task}
use Rattle.exi_run.specs.Wishes.{wish_of}
use Rattle.exi_run.proofs.Serving.{on_ok, served_bytes, served_none, stands_none, text_did, text_owes}
use Rattle.exi_run.proofs.compose.write_plain.Goals as goal

pub returns-in_err-input-clause-served : goal.returns-in_err-input-clause-served
returns-in_err-input-clause-served g c =
    let p = err_from_is_err_and c.from_residual.result c.from_residual.ensures.1 in
    rw (p.1, p.2) (served_none (OwedOfText (wish_of (gathered c.args.writing.now.given))) (text_owes (wish_of (gathered c.args.writing.now.given))) (wish_of (gathered c.args.writing.now.given)).document c.args.writing.now.file.now (g.F.Shelf.files c.args.shelf.now) (Rose (g.F.Shelf.faults c.args.shelf.now) (g.F.Shelf.faults c.fetch_file.new.shelf)) c.in_err-input.field-0.0 (g.O.Sink.taken c.args.out.now) (ap (option_map chars) c.requires.plain) c.in_err-input.ensures.fetched)

pub returns-in_err-input-clause-asked : goal.returns-in_err-input-clause-asked
returns-in_err-input-clause-asked g c = rw c.requires.plain c.fetch_file.ensures.asked

pub returns-clause-served : goal.returns-clause-served
returns-clause-served g c =
    served_bytes (OwedOfText (wish_of (gathered c.args.writing.now.given))) (wish_of (gathered c.args.writing.now.given)).document c.args.writing.now.file.now (g.F.Shelf.files c.args.shelf.now) (Rose (g.F.Shelf.faults c.args.shelf.now) (g.F.Shelf.faults c.fetch_file.new.shelf)) c.as_slice.result.now c.write_text.result (g.O.Sink.taken c.args.out.now) (g.O.Sink.taken c.write_text.new.out) (ap (option_map chars) c.requires.plain) (rw c.as_slice.ensures c.in_ok-input.ensures.fetched) (text_did (wish_of (gathered c.args.writing.now.given)) None c.as_slice.result.now c.write_text.result (g.O.Sink.taken c.args.out.now) (g.O.Sink.taken c.write_text.new.out) c.write_text.ensures.written)

pub returns-clause-asked : goal.returns-clause-asked
returns-clause-asked g c = rw c.requires.plain c.fetch_file.ensures.asked

pub returns-clause-stands : goal.returns-clause-stands
returns-clause-stands g c =
    on_ok c.write_text.result (OfDocument (Some (writing_task c.args.writing.now)) (g.F.Shelf.files c.args.shelf.now) Stands) (stands_none (wish_of (gathered c.args.writing.now.given)).document (g.F.Shelf.files c.args.shelf.now) (ap (option_map chars) c.requires.plain))
