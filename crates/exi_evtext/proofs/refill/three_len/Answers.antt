use Rattle.std.proofs.Common.{inl, inr, arith}
use Rattle.exi_evtext.proofs.Refills.{three_in}
use Rattle.exi_evtext.proofs.refill.three_len.Goals as goal

pub returns-then-high-lt864 : goal.returns-then-high-lt864
returns-then-high-lt864 c = three_in c.args.bytes.now c.args.at (omega arith) (omega arith, omega arith) (omega arith, omega arith) (omega arith, omega arith) (omega arith) (inl (omega arith))

pub returns-else-high-lt896 : goal.returns-else-high-lt896
returns-else-high-lt896 c = three_in c.args.bytes.now c.args.at (omega arith) (omega arith, omega arith) (omega arith, omega arith) (omega arith, omega arith) (omega arith) (inr (omega arith))
