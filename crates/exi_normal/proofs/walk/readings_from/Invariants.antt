use Rattle.std.proofs.Common.{◌+◌, length}
use Rattle.exi_normal.proofs.Seen.{unseen}
use Rattle.exi_normal.proofs.Walking.{IsWalked}
use Rattle.exi_normal.proofs.walk.readings_from.Given as goal

abbrev pub invariant-loop-next : goal.invariant-loop-next
invariant-loop-next l = IsWalked l.states l.members l.readings.items l.seen l.todo.items

abbrev pub decreases-loop-next : goal.decreases-loop-next
decreases-loop-next l = length l.todo.items + unseen 0 l.states l.seen
