use Rattle.std.proofs.Common.{◌≡◌, drop}
use Rattle.exi_counts.specs.Sizes.{sum_size}
use Rattle.exi_counts.proofs.size.sum_size.Given as goal

abbrev pub invariant-loop-place : goal.invariant-loop-place
invariant-loop-place l = sum_size l.fn.sizes l.total (drop l.place-index l.fn.places) ≡ sum_size l.fn.sizes l.fn.start l.fn.places
