use Rattle.exi_evtext.proofs.Feedless.{printed_says, says_one}
use Rattle.exi_evtext.proofs.LineWise.{printed_parsed}
use Rattle.exi_evtext.proofs.laws.written_is_read.Goals as goal

pub returns : goal.returns
returns c = record { printed = printed_says; parsed = printed_parsed; one = says_one }
