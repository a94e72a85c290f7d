use Rattle.std.proofs.Common.{arith}
use Rattle.exi_bits.proofs.WidthLaws.{width_few, width_many, width_twice}
use Rattle.exi_bits.proofs.widths.bits_for.Goals as goal

pub returns-then-count-eq0-clause-width : goal.returns-then-count-eq0-clause-width
returns-then-count-eq0-clause-width c = width_few c.args.count (omega (arith, c.if-count-eq0.true))

pub returns-then-count-clause-width : goal.returns-then-count-clause-width
returns-then-count-clause-width c = width_twice c.args.count (omega (arith, c.if-count-eq0.false)) (omega (arith, c.if-count.true))

pub returns-clause-width : goal.returns-clause-width
returns-clause-width c = width_many c.args.count (omega (arith, c.if-count.false)) (omega arith)
