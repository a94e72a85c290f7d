use Rattle.std.proofs.Common.{◌∙◌}
use Rattle.exi_proto.proofs.Looping.{pop_ends}
use Rattle.exi_proto.proofs.work.Work.push_state.Goals as goal

pub loop-end-preserved : goal.loop-end-preserved
loop-end-preserved c =
    let i = c.loop-end.invariant in
    (i.0, i.1, pop_ends _ _ _ _ _ _ c.in-Some.ensures.items c.in_ok-push.ensures.ok c.ending.ensures ∙ i.2)
