use Rattle.std.proofs.lemmas.Result.{err_from_is_err_and}
use Rattle.xsd_file.specs.Words.{as_told}
use Rattle.exi_run.proofs.Serving.{counts_first, counts_second, counts_third}
use Rattle.exi_run.proofs.count.put_counts.Goals as goal

pub returns-in_err-put_count-clause-put : goal.returns-in_err-put_count-clause-put
returns-in_err-put_count-clause-put g c =
    let p = err_from_is_err_and c.from_residual.result c.from_residual.ensures.1 in
    rw (p.1, p.2) (counts_first c.in_err-put_count.field-0.0 (as_told c.args.components.now) c.elements_counted.result (g.O.Sink.taken c.args.out.now) (g.O.Sink.taken c.put_count.new.out) c.elements_counted.ensures c.in_err-put_count.ensures.put)

pub returns-in_err-put_count-2-clause-put : goal.returns-in_err-put_count-2-clause-put
returns-in_err-put_count-2-clause-put g c =
    let p = err_from_is_err_and c.from_residual-in_err-put_count-2.result c.from_residual-in_err-put_count-2.ensures.1 in
    rw (p.1, p.2) (counts_second c.in_err-put_count-2.field-0.0 (as_told c.args.components.now) c.elements_counted.result c.attributes_counted.result (g.O.Sink.taken c.args.out.now) (g.O.Sink.taken c.put_count.new.out) (g.O.Sink.taken c.put_count-2.new.out) c.elements_counted.ensures c.attributes_counted.ensures c.in_ok-put_count.ensures.put c.in_err-put_count-2.ensures.put)

pub returns-clause-put : goal.returns-clause-put
returns-clause-put g c =
    counts_third c.put_count-3.result (as_told c.args.components.now) c.elements_counted.result c.attributes_counted.result c.types_counted.result (g.O.Sink.taken c.args.out.now) (g.O.Sink.taken c.put_count.new.out) (g.O.Sink.taken c.put_count-2.new.out) (g.O.Sink.taken c.put_count-3.new.out) c.elements_counted.ensures c.attributes_counted.ensures c.types_counted.ensures c.in_ok-put_count.ensures.put c.in_ok-put_count-2.ensures.put c.put_count-3.ensures.put
