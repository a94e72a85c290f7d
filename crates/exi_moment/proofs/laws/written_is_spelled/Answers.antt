use Rattle.exi_moment.proofs.Whole.{moment_written}
use Rattle.exi_moment.proofs.laws.written_is_spelled.Goals as goal

pub returns : goal.returns
returns c = moment_written
