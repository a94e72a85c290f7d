use Rattle.std.proofs.Common.{length}
use Rattle.exi_evtext.proofs.Refills.{Gathered}
use Rattle.exi_evtext.proofs.refill.refill.Given as goal

-- what was gathered stands in front of what is still to be read
abbrev pub invariant-loop-more : goal.invariant-loop-more
invariant-loop-more l = Gathered l.more l.text l.left l.bytes

abbrev pub decreases-loop-more : goal.decreases-loop-more
decreases-loop-more l = length l.left
