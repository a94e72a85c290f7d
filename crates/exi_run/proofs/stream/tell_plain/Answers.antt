use Rattle.std.proofs.Common.{ap}
use Rattle.std.proofs.lemmas.Result.{err_from_is_err_and}
use Rattle.std.specs.Prelude.{chars, option_map}
use Rattle.exi_names.specs.Events.{Rose}
use Rattle.exi_run.specs.Tasks.{terms_told}
use Rattle.exi_run.specs.Dues.{OwedOfStream}
use Rattle.exi_run.proofs.Serving.{served_bytes, served_none, stream_owes}
use Rattle.exi_run.proofs.stream.tell_plain.Goals as goal

pub returns-in_err-input-clause-served : goal.returns-in_err-input-clause-served
returns-in_err-input-clause-served g c =
    let p = err_from_is_err_and c.from_residual.result c.from_residual.ensures.1 in
    rw (p.1, p.2) (served_none (OwedOfStream c.args.telling.now.form (terms_told c.args.telling.now)) (stream_owes c.one_whole.ensures.there c.args.telling.now.form (terms_told c.args.telling.now)) (terms_told c.args.telling.now).document c.args.telling.now.file.now (g.F.Shelf.files c.args.shelf.now) (Rose (g.F.Shelf.faults c.args.shelf.now) (g.F.Shelf.faults c.fetch_file.new.shelf)) c.in_err-input.field-0.0 (g.O.Sink.taken c.args.out.now) (ap (option_map chars) c.requires.plain) c.in_err-input.ensures.fetched)

pub returns-in_err-input-clause-asked : goal.returns-in_err-input-clause-asked
returns-in_err-input-clause-asked g c = rw c.requires.plain c.fetch_file.ensures.asked

pub returns-clause-served : goal.returns-clause-served
returns-clause-served g c =
    served_bytes (OwedOfStream c.args.telling.now.form (terms_told c.args.telling.now)) (terms_told c.args.telling.now).document c.args.telling.now.file.now (g.F.Shelf.files c.args.shelf.now) (Rose (g.F.Shelf.faults c.args.shelf.now) (g.F.Shelf.faults c.fetch_file.new.shelf)) c.as_slice.result.now c.print_stream.result (g.O.Sink.taken c.args.out.now) (g.O.Sink.taken c.print_stream.new.out) (ap (option_map chars) c.requires.plain) (rw c.as_slice.ensures c.in_ok-input.ensures.fetched) c.print_stream.ensures.printed

pub returns-clause-asked : goal.returns-clause-asked
returns-clause-asked g c = rw c.requires.plain c.fetch_file.ensures.asked
