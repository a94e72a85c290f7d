use Rattle.exi_typed.proofs.Meters.{readings_are_metered}
use Rattle.exi_typed.proofs.laws.readings_are_metered.Goals as goal

pub returns : goal.returns
returns c = record { law = readings_are_metered }
