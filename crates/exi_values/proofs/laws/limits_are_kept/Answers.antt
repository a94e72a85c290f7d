use Rattle.exi_values.proofs.Limits.{values_stay_within}
use Rattle.exi_values.proofs.laws.limits_are_kept.Goals as goal

pub returns : goal.returns
returns c = record { law = values_stay_within }
