use Rattle.exi_moment.proofs.Whole.{moment_read_back}
use Rattle.exi_moment.proofs.laws.written_is_read.Goals as goal

pub returns : goal.returns
returns c = moment_read_back
