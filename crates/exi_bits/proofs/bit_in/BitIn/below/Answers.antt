use Rattle.std.proofs.Common.{◌≡◌, arith, refl}
use Rattle.exi_bits.proofs.Below.{below_none, below_one}
use Rattle.exi_bits.proofs.bit_in.BitIn.below.Goals as goal

pub returns-then-count-eq1-clause-read : goal.returns-then-count-eq1-clause-read
returns-then-count-eq1-clause-read c = below_one c.args.count c.args.align c.args.kind c.args.self.now c.if-count-eq1.true

pub returns-then-count-le1-clause-read : goal.returns-then-count-le1-clause-read
returns-then-count-le1-clause-read c = let none : c.args.count ≡ 0 = omega (arith, c.if-count-le1.true, c.if-count-eq1.false) in (rw c.at-bit.ensures.place (below_none c.args.count c.args.align c.args.kind c.args.self.now none), refl)
