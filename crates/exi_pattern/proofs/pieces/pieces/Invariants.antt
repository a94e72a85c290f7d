use Rattle.std.proofs.Common.{◌≡◌, ◌+◌, ◌≤◌, suc, length}
use Rattle.exi_pattern.specs.Patterns.{at_start, pieces}
use Rattle.exi_pattern.proofs.pieces.pieces.Given as goal

abbrev pub invariant-loop-rest : goal.invariant-loop-rest
invariant-loop-rest l =
    (pieces (suc (length l.rest)) l.reading l.rest ≡ pieces (suc (length l.fn.pattern)) at_start l.fn.pattern)
    × (l.reading.open_groups + length l.rest ≤ length l.fn.pattern)

abbrev pub decreases-loop-rest : goal.decreases-loop-rest
decreases-loop-rest l = length l.rest
