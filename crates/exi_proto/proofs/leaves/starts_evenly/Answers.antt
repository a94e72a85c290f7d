use Rattle.std.proofs.Common.{◌∙◌, arith}
use Rattle.exi_proto.proofs.Looping.{evenly_next}
use Rattle.exi_proto.proofs.leaves.starts_evenly.Goals as goal

pub loop-place-preserved : goal.loop-place-preserved
loop-place-preserved c =
    let i = c.loop-place.invariant in
    let at = i.0 in
    (omega (arith, at), evenly_next _ _ _ _ 0 _ _ _ c.loop-place-test.true c.in_ok-push.ensures.ok c.leading.ensures (omega arith) ∙ i.1)
