use Rattle.std.proofs.Common.{refl}
use Rattle.exi_normal.proofs.Walking.{pushed_back}
use Rattle.exi_normal.proofs.walk.come_to.Goals as goal

pub loop-index-preserved : goal.loop-index-preserved
loop-index-preserved c = pushed_back c.as_slice-moves.result.now c.args.todo.now.items c.loop-index.todo.items c.push.new.self.items c.loop-index.index _ _ c.loop-index-test.true refl c.loop-index.invariant c.in_ok-push.ensures.items
