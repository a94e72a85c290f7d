use Rattle.exi_items.proofs.Pieces.{on_err, then_front}
use Rattle.exi_scalar.proofs.float.put_float.Goals as goal

pub returns-clause-err : goal.returns-clause-err
returns-clause-err c = on_err _ _ _ (then_front _ _ _ _ _ c.in_ok-put_signed.ensures.ok) c.put_signed-2.ensures.err
