use Rattle.std.proofs.Common.{◌-◌, ◌^◌}
use Rattle.exi_elements.proofs.Walked.{IsWalkTo}
use Rattle.exi_elements.proofs.members.walked.Given as goal

abbrev pub invariant-loop-index : goal.invariant-loop-index
invariant-loop-index l = IsWalkTo l.fn.members l.fn.starts.items l.index l.walk.items

abbrev pub decreases-loop-index : goal.decreases-loop-index
decreases-loop-index l = 2 ^ 64 - l.index
