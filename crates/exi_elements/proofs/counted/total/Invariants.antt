use Rattle.std.proofs.Common.{◌≡◌, ◌+◌, get_or, take}
use Rattle.std.specs.List.{sum_by}
use Rattle.exi_elements.proofs.counted.total.Given as goal

abbrev pub invariant-loop-place : goal.invariant-loop-place
invariant-loop-place l = l.total ≡ 1 + sum_by (λ m. get_or l.fn.counts m 0) (take l.place-index l.fn.places)
