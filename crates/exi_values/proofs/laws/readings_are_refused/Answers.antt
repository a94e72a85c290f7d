use Rattle.exi_values.proofs.Refusals.{values_refused}
use Rattle.exi_values.proofs.laws.readings_are_refused.Goals as goal

pub returns : goal.returns
returns c = record { law = values_refused }
