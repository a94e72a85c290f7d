use Rattle.std.proofs.Common.{◌≡◌, ◌+◌, length}
use Rattle.std.specs.List.{count_by}
use Rattle.exi_names.proofs.Counting.{begins}
use Rattle.exi_names.proofs.counts.count_begins.Given as goal

-- what is counted and what is left make the whole count
abbrev pub invariant-loop-left : goal.invariant-loop-left
invariant-loop-left l = l.count + count_by begins l.left ≡ count_by begins l.bytes

abbrev pub decreases-loop-left : goal.decreases-loop-left
decreases-loop-left l = length l.left
