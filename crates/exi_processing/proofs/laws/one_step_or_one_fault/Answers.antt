use Rattle.exi_processing.proofs.Sequences.{one_step_or_one_fault}
use Rattle.exi_processing.proofs.laws.one_step_or_one_fault.Goals as goal

pub returns : goal.returns
returns c = record { law = one_step_or_one_fault }
