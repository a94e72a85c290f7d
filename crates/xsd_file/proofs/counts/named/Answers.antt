use Rattle.std.proofs.Common.{arith}
use Rattle.xsd_file.proofs.counts.named.Goals as goal

pub overflow_add-count : goal.overflow_add-count
overflow_add-count c = omega (arith, c.loop-place.invariant.1, c.loop-place.invariant.2, c.loop-place-test.true)
