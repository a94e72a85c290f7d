use Rattle.std.proofs.Common.{◌+◌, length}
use Rattle.xsd_declared.proofs.Walked.{IsAlong}
use Rattle.xsd_declared.proofs.walks.walked.Given as goal

abbrev pub invariant-loop-left : goal.invariant-loop-left
invariant-loop-left l = IsAlong l.fn.schema (length l.fn.schema + 1) l.left l.walked.items l.power.items

abbrev pub decreases-loop-left : goal.decreases-loop-left
decreases-loop-left l = l.left
