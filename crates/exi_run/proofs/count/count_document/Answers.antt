use Rattle.std.proofs.lemmas.Result.{err_from_is_err_and}
use Rattle.exi_names.specs.Events.{Rose}
use Rattle.exi_run.proofs.Serving.{document_unserved, served_document}
use Rattle.exi_run.proofs.count.count_document.Goals as goal

pub returns-in_err-input-clause-served : goal.returns-in_err-input-clause-served
returns-in_err-input-clause-served g c =
    let p = err_from_is_err_and c.from_residual.result c.from_residual.ensures.1 in
    rw (p.1, p.2) (document_unserved c.one_document.ensures.there c.args.file.now (g.F.Shelf.files c.args.shelf.now) (Rose (g.F.Shelf.faults c.args.shelf.now) (g.F.Shelf.faults c.fetch_file.new.shelf)) c.in_err-input.field-0.0 (g.O.Sink.taken c.args.out.now) c.in_err-input.ensures.fetched)

pub returns-clause-served : goal.returns-clause-served
returns-clause-served g c =
    served_document c.args.file.now (g.F.Shelf.files c.args.shelf.now) (Rose (g.F.Shelf.faults c.args.shelf.now) (g.F.Shelf.faults c.fetch_file.new.shelf)) c.as_slice.result.now c.count_bytes.result (g.O.Sink.taken c.args.out.now) (g.O.Sink.taken c.count_bytes.new.out) (rw c.as_slice.ensures c.in_ok-input.ensures.fetched) c.count_bytes.ensures.counted
