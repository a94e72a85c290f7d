use Rattle.exi_values.proofs.Growths.{growth_is_charged}
use Rattle.exi_values.proofs.laws.growth_is_charged.Goals as goal

pub returns : goal.returns
returns c = record { law = growth_is_charged }
