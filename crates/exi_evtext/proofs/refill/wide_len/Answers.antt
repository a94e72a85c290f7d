use Rattle.std.proofs.Common.{arith}
use Rattle.exi_evtext.proofs.Refills.{two_in}
use Rattle.exi_evtext.proofs.refill.wide_len.Goals as goal

pub returns : goal.returns
returns c = two_in c.args.bytes.now c.args.at (omega arith) (omega arith, omega arith) (omega arith, omega arith)
