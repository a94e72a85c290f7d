use Rattle.std.proofs.Common.{ap, ◌∙◌, sym}
use Rattle.std.proofs.lemmas.Result.{err_from_is_err_and}
use Rattle.std.specs.Prelude.{Some, chars, option_map}
use Rattle.exi_names.specs.Events.{Rose}
use Rattle.exi_run.specs.Tasks.{terms_told}
use Rattle.exi_run.specs.Dues.{OwedOfStream}
use Rattle.exi_run.proofs.Serving.{asked_first, asked_two, both_starved, no_document, no_input, rose_later, served_both, stream_owes}
use Rattle.exi_run.proofs.stream.tell_informed.Goals as goal

pub returns-in_err-name-clause-served : goal.returns-in_err-name-clause-served
returns-in_err-name-clause-served g c =
    let p = err_from_is_err_and c.from_residual.result c.from_residual.ensures.1 in
    rw (p.1, p.2) (both_starved c.one_document.ensures.there (OwedOfStream c.args.telling.now.form (terms_told c.args.telling.now)) (stream_owes c.one_whole.ensures.there c.args.telling.now.form (terms_told c.args.telling.now)) (terms_told c.args.telling.now).document (chars c.args.document.now) c.args.telling.now.file.now (g.F.Shelf.files c.args.shelf.now) (Rose (g.F.Shelf.faults c.args.shelf.now) (g.F.Shelf.faults c.args.shelf.now)) (g.O.Sink.taken c.args.out.now) (ap (option_map chars) c.requires.informed))

pub returns-in_err-document-clause-served : goal.returns-in_err-document-clause-served
returns-in_err-document-clause-served g c =
    let p = err_from_is_err_and c.from_residual-in_err-document.result c.from_residual-in_err-document.ensures.1 in
    rw (p.1, p.2) (no_document c.one_document.ensures.there (OwedOfStream c.args.telling.now.form (terms_told c.args.telling.now)) (stream_owes c.one_whole.ensures.there c.args.telling.now.form (terms_told c.args.telling.now)) (terms_told c.args.telling.now).document c.in_ok-name.name c.args.telling.now.file.now (g.F.Shelf.files c.args.shelf.now) (Rose (g.F.Shelf.faults c.args.shelf.now) (g.F.Shelf.faults c.fetch_file.new.shelf)) c.in_err-document.field-0.0 (g.O.Sink.taken c.args.out.now) (ap (option_map chars) c.requires.informed ∙ ap (λ t. Some t) (sym c.in_ok-name.ensures)) c.in_err-document.ensures.fetched)

pub returns-in_err-document-clause-asked : goal.returns-in_err-document-clause-asked
returns-in_err-document-clause-asked g c =
    rw (c.requires.informed, sym c.in_ok-name.ensures) (asked_first (g.F.Shelf.asked c.args.shelf.now) (g.F.Shelf.asked c.fetch_file.new.shelf) c.in_ok-name.name c.args.telling.now.file.now c.fetch_file.ensures.asked)

pub returns-in_err-input-clause-served : goal.returns-in_err-input-clause-served
returns-in_err-input-clause-served g c =
    let p = err_from_is_err_and c.from_residual-in_err-input.result c.from_residual-in_err-input.ensures.1 in
    rw (p.1, p.2) (no_input c.one_document.ensures.there (OwedOfStream c.args.telling.now.form (terms_told c.args.telling.now)) (stream_owes c.one_whole.ensures.there c.args.telling.now.form (terms_told c.args.telling.now)) (terms_told c.args.telling.now).document c.in_ok-name.name c.args.telling.now.file.now c.in_ok-document.document (g.F.Shelf.files c.args.shelf.now) (g.F.Shelf.files c.fetch_file.new.shelf) (Rose (g.F.Shelf.faults c.fetch_file.new.shelf) (g.F.Shelf.faults c.fetch_file-2.new.shelf)) (Rose (g.F.Shelf.faults c.args.shelf.now) (g.F.Shelf.faults c.fetch_file-2.new.shelf)) c.in_err-input.field-0.0 (g.O.Sink.taken c.args.out.now) (ap (option_map chars) c.requires.informed ∙ ap (λ t. Some t) (sym c.in_ok-name.ensures)) c.fetch_file.ensures.same (rose_later (g.F.Shelf.faults c.args.shelf.now) (g.F.Shelf.faults c.fetch_file.new.shelf) (g.F.Shelf.faults c.fetch_file-2.new.shelf) c.fetch_file.ensures.later) c.in_ok-document.ensures.fetched c.in_err-input.ensures.fetched)

pub returns-in_err-input-clause-asked : goal.returns-in_err-input-clause-asked
returns-in_err-input-clause-asked g c =
    rw (c.requires.informed, sym c.in_ok-name.ensures) (asked_two (g.F.Shelf.asked c.args.shelf.now) (g.F.Shelf.asked c.fetch_file.new.shelf) (g.F.Shelf.asked c.fetch_file-2.new.shelf) c.in_ok-name.name c.args.telling.now.file.now c.in_ok-document.ensures.found c.fetch_file-2.ensures.asked)

pub returns-clause-served : goal.returns-clause-served
returns-clause-served g c =
    served_both (OwedOfStream c.args.telling.now.form (terms_told c.args.telling.now)) (terms_told c.args.telling.now).document c.in_ok-name.name c.args.telling.now.file.now c.in_ok-document.document c.as_slice.result.now (g.F.Shelf.files c.args.shelf.now) (g.F.Shelf.files c.fetch_file.new.shelf) (Rose (g.F.Shelf.faults c.args.shelf.now) (g.F.Shelf.faults c.fetch_file-2.new.shelf)) c.print_informed.result (g.O.Sink.taken c.args.out.now) (g.O.Sink.taken c.print_informed.new.out) (ap (option_map chars) c.requires.informed ∙ ap (λ t. Some t) (sym c.in_ok-name.ensures)) c.fetch_file.ensures.same c.in_ok-document.ensures.fetched (rw c.as_slice.ensures c.in_ok-input.ensures.fetched) c.print_informed.ensures.printed

pub returns-clause-asked : goal.returns-clause-asked
returns-clause-asked g c =
    rw (c.requires.informed, sym c.in_ok-name.ensures) (asked_two (g.F.Shelf.asked c.args.shelf.now) (g.F.Shelf.asked c.fetch_file.new.shelf) (g.F.Shelf.asked c.fetch_file-2.new.shelf) c.in_ok-name.name c.args.telling.now.file.now c.in_ok-document.ensures.found c.fetch_file-2.ensures.asked)
