use Rattle.std.proofs.Common.{◌∙◌}
use Rattle.std.proofs.lemmas.Result.{err_from_is_err_and}
use Rattle.exi_run.specs.Dues.{count_line}
use Rattle.exi_run.proofs.Owing.{line_err, line_ok}
use Rattle.exi_run.proofs.count.put_count.Goals as goal

pub returns-in_err-put-clause-put : goal.returns-in_err-put-clause-put
returns-in_err-put-clause-put g c =
    let p = err_from_is_err_and c.from_residual-in_err-put.result c.from_residual-in_err-put.ensures.1 in
    rw (p.1, p.2) (line_err c.put.result c.in_err-put.field-0.0 c.deref.result.now (count_line c.args.word.now c.args.count) (g.O.Sink.taken c.args.out.now) (g.O.Sink.taken c.put.new.self) (c.deref.ensures.value ∙ c.in_ok-line.ensures) c.in_err-put.was c.put.ensures.part c.put.ensures.memory)

pub returns-clause-put : goal.returns-clause-put
returns-clause-put g c = line_ok c.deref.result.now (count_line c.args.word.now c.args.count) (g.O.Sink.taken c.args.out.now) (g.O.Sink.taken c.put.new.self) (c.deref.ensures.value ∙ c.in_ok-line.ensures) c.in_ok-put.ensures.ok
