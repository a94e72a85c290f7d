use Rattle.exi_values.proofs.Meters.{values_are_metered}
use Rattle.exi_values.proofs.laws.readings_are_metered.Goals as goal

pub returns : goal.returns
returns c = record { law = values_are_metered }
