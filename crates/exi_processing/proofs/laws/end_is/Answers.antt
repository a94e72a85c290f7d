use Rattle.exi_processing.proofs.Endings.{end_is}
use Rattle.exi_processing.proofs.laws.end_is.Goals as goal

pub returns : goal.returns
returns c = record { law = end_is }
