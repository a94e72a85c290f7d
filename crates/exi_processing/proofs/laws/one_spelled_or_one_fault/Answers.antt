use Rattle.exi_processing.proofs.Refusals.{one_spelled_or_one_fault}
use Rattle.exi_processing.proofs.laws.one_spelled_or_one_fault.Goals as goal

pub returns : goal.returns
returns c = record { law = one_spelled_or_one_fault }
