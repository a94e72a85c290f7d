use Rattle.std.proofs.Common.{arith}
use Rattle.exi_evtext.proofs.Refills.{four_in}
use Rattle.exi_evtext.proofs.refill.four_len.Goals as goal

pub returns-then-high-lt272 : goal.returns-then-high-lt272
returns-then-high-lt272 c = four_in c.args.bytes.now c.args.at (omega arith) (omega arith) (omega arith, omega arith) (omega arith, omega arith) (omega arith, omega arith) (omega arith, omega arith)
