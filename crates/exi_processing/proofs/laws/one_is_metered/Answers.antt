use Rattle.exi_processing.proofs.Metering.{one_is_metered}
use Rattle.exi_processing.proofs.laws.one_is_metered.Goals as goal

pub returns : goal.returns
returns c = record { law = one_is_metered }
