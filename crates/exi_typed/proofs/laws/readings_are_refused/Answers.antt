use Rattle.exi_typed.proofs.Refusals.{readings_are_refused}
use Rattle.exi_typed.proofs.laws.readings_are_refused.Goals as goal

pub returns : goal.returns
returns c = record { law = readings_are_refused }
