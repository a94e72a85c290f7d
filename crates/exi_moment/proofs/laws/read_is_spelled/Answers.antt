use Rattle.exi_moment.proofs.Whole.{moment_told}
use Rattle.exi_moment.proofs.laws.read_is_spelled.Goals as goal

pub returns : goal.returns
returns c = moment_told
