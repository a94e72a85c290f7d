use Rattle.exi_normal.proofs.Law.{met_is_read}
use Rattle.exi_normal.proofs.laws.met_is_read.Goals as goal

pub returns : goal.returns
returns c = met_is_read
