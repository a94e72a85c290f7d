use Rattle.exi_processing.proofs.Refusals.{fault_is_refused}
use Rattle.exi_processing.proofs.laws.fault_is_refused.Goals as goal

pub returns : goal.returns
returns c = record { law = fault_is_refused }
