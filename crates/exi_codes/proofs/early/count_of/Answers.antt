use Rattle.exi_codes.proofs.Reaching.{count_step}
use Rattle.exi_codes.proofs.early.count_of.Goals as goal

pub loop-state-preserved : goal.loop-state-preserved
loop-state-preserved c = count_step c.args.states.now c.loop-state.state-index c.loop-state.count c.state-item.result c.as_slice.result.now c.loop-state-test.true c.state-item.is c.as_slice.ensures (c.requires.productions c.loop-state.state-index c.state-item.result c.loop-state-test.true) c.loop-state.invariant
