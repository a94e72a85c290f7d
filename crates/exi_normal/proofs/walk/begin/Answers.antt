use Rattle.std.proofs.Common.{refl}
use Rattle.exi_normal.proofs.Walking.{members_back}
use Rattle.exi_normal.proofs.walk.begin.Goals as goal

pub loop-index-preserved : goal.loop-index-preserved
loop-index-preserved c = members_back c.args.members.now c.args.todo.now.items c.loop-index.todo.items c.push.new.self.items c.loop-index.index _ c.loop-index-test.true refl c.loop-index.invariant c.in_ok-push.ensures.items
