use Rattle.std.proofs.Common.{ap, ◌∙◌, sym}
use Rattle.std.proofs.lemmas.Result.{err_from_is_err_and}
use Rattle.std.specs.Prelude.{Some, chars, option_map}
use Rattle.exi_names.specs.Events.{Rose}
use Rattle.exi_run.specs.Tasks.{gathered, writing_task}
use Rattle.exi_run.specs.Wishes.{wish_of}
use Rattle.exi_run.specs.Answers.{OfDocument, Stands}
use Rattle.exi_run.specs.Dues.{OwedOfText}
use Rattle.exi_run.proofs.Serving.{asked_first, asked_two, both_starved, no_document, no_input, rose_later, served_both, stands_file, text_owes, then_ok}
use Rattle.exi_run.proofs.compose.write_informed.Goals as goal

pub returns-in_err-name-clause-served : goal.returns-in_err-name-clause-served
returns-in_err-name-clause-served g c =
    let p = err_from_is_err_and c.from_residual.result c.from_residual.ensures.1 in
    rw (p.1, p.2) (both_starved c.one_document.ensures.there (OwedOfText (wish_of (gathered c.args.writing.now.given))) (text_owes (wish_of (gathered c.args.writing.now.given))) (wish_of (gathered c.args.writing.now.given)).document (chars c.args.document.now) c.args.writing.now.file.now (g.F.Shelf.files c.args.shelf.now) (Rose (g.F.Shelf.faults c.args.shelf.now) (g.F.Shelf.faults c.args.shelf.now)) (g.O.Sink.taken c.args.out.now) (ap (option_map chars) c.requires.informed))

pub returns-in_err-document-clause-served : goal.returns-in_err-document-clause-served
returns-in_err-document-clause-served g c =
    let p = err_from_is_err_and c.from_residual-in_err-document.result c.from_residual-in_err-document.ensures.1 in
    rw (p.1, p.2) (no_document c.one_document.ensures.there (OwedOfText (wish_of (gathered c.args.writing.now.given))) (text_owes (wish_of (gathered c.args.writing.now.given))) (wish_of (gathered c.args.writing.now.given)).document c.in_ok-name.name c.args.writing.now.file.now (g.F.Shelf.files c.args.shelf.now) (Rose (g.F.Shelf.faults c.args.shelf.now) (g.F.Shelf.faults c.fetch_file.new.shelf)) c.in_err-document.field-0.0 (g.O.Sink.taken c.args.out.now) (ap (option_map chars) c.requires.informed ∙ ap (λ t. Some t) (sym c.in_ok-name.ensures)) c.in_err-document.ensures.fetched)

pub returns-in_err-document-clause-asked : goal.returns-in_err-document-clause-asked
returns-in_err-document-clause-asked g c =
    rw (c.requires.informed, sym c.in_ok-name.ensures) (asked_first (g.F.Shelf.asked c.args.shelf.now) (g.F.Shelf.asked c.fetch_file.new.shelf) c.in_ok-name.name c.args.writing.now.file.now c.fetch_file.ensures.asked)

pub returns-in_err-text-clause-served : goal.returns-in_err-text-clause-served
returns-in_err-text-clause-served g c =
    let p = err_from_is_err_and c.from_residual-in_err-text.result c.from_residual-in_err-text.ensures.1 in
    rw (p.1, p.2) (no_input c.one_document.ensures.there (OwedOfText (wish_of (gathered c.args.writing.now.given))) (text_owes (wish_of (gathered c.args.writing.now.given))) (wish_of (gathered c.args.writing.now.given)).document c.in_ok-name.name c.args.writing.now.file.now c.in_ok-document.document (g.F.Shelf.files c.args.shelf.now) (g.F.Shelf.files c.fetch_file.new.shelf) (Rose (g.F.Shelf.faults c.fetch_file.new.shelf) (g.F.Shelf.faults c.fetch_file-2.new.shelf)) (Rose (g.F.Shelf.faults c.args.shelf.now) (g.F.Shelf.faults c.fetch_file-2.new.shelf)) c.in_err-text.field-0.0 (g.O.Sink.taken c.args.out.now) (ap (option_map chars) c.requires.informed ∙ ap (λ t. Some t) (sym c.in_ok-name.ensures)) c.fetch_file.ensures.same (rose_later (g.F.Shelf.faults c.args.shelf.now) (g.F.Shelf.faults c.fetch_file.new.shelf) (g.F.Shelf.faults c.fetch_file-2.new.shelf) c.fetch_file.ensures.later) c.in_ok-document.ensures.fetched c.in_err-text.ensures.fetched)

pub returns-in_err-text-clause-asked : goal.returns-in_err-text-clause-asked
returns-in_err-text-clause-asked g c =
    rw (c.requires.informed, sym c.in_ok-name.ensures) (asked_two (g.F.Shelf.asked c.args.shelf.now) (g.F.Shelf.asked c.fetch_file.new.shelf) (g.F.Shelf.asked c.fetch_file-2.new.shelf) c.in_ok-name.name c.args.writing.now.file.now c.in_ok-document.ensures.found c.fetch_file-2.ensures.asked)

pub returns-clause-served : goal.returns-clause-served
returns-clause-served g c =
    served_both (OwedOfText (wish_of (gathered c.args.writing.now.given))) (wish_of (gathered c.args.writing.now.given)).document c.in_ok-name.name c.args.writing.now.file.now c.in_ok-document.document c.as_slice.result.now (g.F.Shelf.files c.args.shelf.now) (g.F.Shelf.files c.fetch_file.new.shelf) (Rose (g.F.Shelf.faults c.args.shelf.now) (g.F.Shelf.faults c.fetch_file-2.new.shelf)) c.write_by.result (g.O.Sink.taken c.args.out.now) (g.O.Sink.taken c.write_by.new.out) (ap (option_map chars) c.requires.informed ∙ ap (λ t. Some t) (sym c.in_ok-name.ensures)) c.fetch_file.ensures.same c.in_ok-document.ensures.fetched (rw c.as_slice.ensures c.in_ok-text.ensures.fetched) c.write_by.ensures.written

pub returns-clause-asked : goal.returns-clause-asked
returns-clause-asked g c =
    rw (c.requires.informed, sym c.in_ok-name.ensures) (asked_two (g.F.Shelf.asked c.args.shelf.now) (g.F.Shelf.asked c.fetch_file.new.shelf) (g.F.Shelf.asked c.fetch_file-2.new.shelf) c.in_ok-name.name c.args.writing.now.file.now c.in_ok-document.ensures.found c.fetch_file-2.ensures.asked)

pub returns-clause-stands : goal.returns-clause-stands
returns-clause-stands g c =
    then_ok c.write_by.result (Stands c.in_ok-document.document) (OfDocument (Some (writing_task c.args.writing.now)) (g.F.Shelf.files c.args.shelf.now) Stands)
    (stands_file (wish_of (gathered c.args.writing.now.given)).document (g.F.Shelf.files c.args.shelf.now) (Rose (g.F.Shelf.faults c.args.shelf.now) (g.F.Shelf.faults c.fetch_file.new.shelf)) c.in_ok-name.name c.in_ok-document.document (ap (option_map chars) c.requires.informed ∙ ap (λ t. Some t) (sym c.in_ok-name.ensures)) c.in_ok-document.ensures.fetched)
    c.write_by.ensures.stands
