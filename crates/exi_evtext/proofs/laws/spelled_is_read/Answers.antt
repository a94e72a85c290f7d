use Rattle.exi_evtext.proofs.Spelled.{says_read}
use Rattle.exi_evtext.proofs.LineWise.{text_read}
use Rattle.exi_evtext.proofs.laws.spelled_is_read.Goals as goal

pub returns : goal.returns
returns c = record { line = says_read; text = text_read }
