use Rattle.std.specs.Prelude.{Ok, Err}
use Rattle.std.proofs.lemmas.Result.{err_from_is_err_and}
use Rattle.exi_writer.proofs.Lists.{put_entered, wholes_stop}
use Rattle.exi_writer.proofs.list.put_one.Goals as goal

pub returns-in_err-put-clause-put : goal.returns-in_err-put-clause-put
returns-in_err-put-clause-put g c =
    let p = err_from_is_err_and c.from_residual.result c.from_residual.ensures.1 in
    rw (p.1, p.2) (wholes_stop c.in_err-put.field-0.0 c.args.writer.now c.put.new.self _ c.in_err-put.ensures.put)

pub returns-in_err-enter-clause-put : goal.returns-in_err-enter-clause-put
returns-in_err-enter-clause-put g c =
    let p = err_from_is_err_and c.from_residual-in_err-enter.result c.from_residual-in_err-enter.ensures.1 in
    rw (p.1, p.2) (put_entered c.in_ok-put.field-0 (Err c.in_err-enter.field-0.0) c.args.writer.now c.put.new.self c.enter.new.self _ c.if-branch.true c.in_ok-put.ensures.put c.in_err-enter.ensures.entered)

pub returns-in_ok-enter-clause-put : goal.returns-in_ok-enter-clause-put
returns-in_ok-enter-clause-put g c = put_entered c.in_ok-put.field-0 (Ok c.in_ok-enter.field-0) c.args.writer.now c.put.new.self c.enter.new.self _ c.if-branch.true c.in_ok-put.ensures.put c.in_ok-enter.ensures.entered
