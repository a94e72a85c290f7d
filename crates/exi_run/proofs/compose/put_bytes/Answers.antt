use Rattle.std.proofs.Common.{refl, arith}
use Rattle.std.proofs.lemmas.Result.{err_from_is_err_and}
use Rattle.exi_run.proofs.Owing.{line_err, line_ok}
use Rattle.exi_run.proofs.compose.put_bytes.Goals as goal

pub returns-in_err-put-clause-put : goal.returns-in_err-put-clause-put
returns-in_err-put-clause-put g c =
    let p = err_from_is_err_and c.from_residual.result c.from_residual.ensures.1 in
    rw (p.1, p.2) (line_err c.put.result c.in_err-put.field-0.0 c.args.piece.now c.args.piece.now (g.O.Sink.taken c.args.out.now) (g.O.Sink.taken c.put.new.self) refl c.in_err-put.was c.put.ensures.part c.put.ensures.memory)

pub returns-in_err-put-clause-octets : goal.returns-in_err-put-clause-octets
returns-in_err-put-clause-octets g c = λ i. omega (arith, c.type_inv.piece i)

pub returns-clause-put : goal.returns-clause-put
returns-clause-put g c = line_ok c.args.piece.now c.args.piece.now (g.O.Sink.taken c.args.out.now) (g.O.Sink.taken c.put.new.self) refl c.in_ok-put.ensures.ok

pub returns-clause-octets : goal.returns-clause-octets
returns-clause-octets g c = λ i. omega (arith, c.type_inv.piece i)
