use Rattle.exi_counts.specs.Sizes.{AreSizes, unknown}
use Rattle.exi_counts.proofs.settling.settle.Given as goal

abbrev pub invariant-loop-count : goal.invariant-loop-count
invariant-loop-count l = AreSizes l.fn.elements l.sizes.items

abbrev pub decreases-loop-count : goal.decreases-loop-count
decreases-loop-count l = unknown l.sizes.items
