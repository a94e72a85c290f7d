use Rattle.exi_moment.proofs.Whole.{moment_no_prefix}
use Rattle.exi_moment.proofs.laws.none_is_prefix.Goals as goal

pub returns : goal.returns
returns c = moment_no_prefix
