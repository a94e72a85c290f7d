use Rattle.exi_options.proofs.SpelledSteps.{spelled_read}
use Rattle.exi_options.proofs.laws.spelled_is_read.Goals as goal

pub returns : goal.returns
returns c = spelled_read
