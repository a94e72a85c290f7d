use Rattle.exi_options.specs.Document.{ahead}
use Rattle.exi_options.proofs.Writes.{Adds}
use Rattle.exi_options.proofs.write.write_options.Given as goal

abbrev pub invariant-loop-place : goal.invariant-loop-place
invariant-loop-place l = Adds l.options l.fn.out l.state l.out

abbrev pub decreases-loop-place : goal.decreases-loop-place
decreases-loop-place l = ahead l.state
