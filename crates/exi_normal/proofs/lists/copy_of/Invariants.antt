use Rattle.std.proofs.Common.{◌≡◌, take}
use Rattle.exi_normal.proofs.lists.copy_of.Given as goal

abbrev pub invariant-loop-state : goal.invariant-loop-state
invariant-loop-state l = l.copy.items ≡ take l.state-index l.list
