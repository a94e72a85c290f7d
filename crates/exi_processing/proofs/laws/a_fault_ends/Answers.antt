use Rattle.exi_processing.proofs.Sequences.{a_fault_ends}
use Rattle.exi_processing.proofs.laws.a_fault_ends.Goals as goal

pub returns : goal.returns
returns c = record { law = a_fault_ends }
