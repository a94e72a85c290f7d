use Rattle.exi_values.proofs.Same.{same_read}
use Rattle.exi_values.proofs.laws.tabled_are_read.Goals as goal

pub returns : goal.returns
returns c = record { law = same_read }
