use Rattle.exi_moment.proofs.Whole.{moment_again}
use Rattle.exi_moment.proofs.laws.spelled_is_read.Goals as goal

pub returns : goal.returns
returns c = moment_again
