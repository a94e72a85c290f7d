use Rattle.exi_index.proofs.Lines.{spelled_read}
use Rattle.exi_index.proofs.laws.spelled_is_read.Goals as goal

pub returns : goal.returns
returns c = spelled_read
