use Rattle.std.proofs.Common.{◌≡◌, suc, length, true, false}
use Rattle.exi_pattern.specs.Groups.{members}
use Rattle.exi_pattern.proofs.groups.members.Given as goal

abbrev pub invariant-loop-behind : goal.invariant-loop-behind
invariant-loop-behind l = members (suc (length l.rest)) false l.letters l.rest ≡ members (suc (length l.fn.at)) true l.fn.letters l.fn.at

abbrev pub decreases-loop-behind : goal.decreases-loop-behind
decreases-loop-behind l = length l.rest
