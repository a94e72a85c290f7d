use Rattle.exi_counts.specs.Sizes.{AreSizes}
use Rattle.exi_counts.proofs.settling.look_at_each.Given as goal

abbrev pub invariant-loop-place : goal.invariant-loop-place
invariant-loop-place l = AreSizes l.fn.elements l.sizes.items
