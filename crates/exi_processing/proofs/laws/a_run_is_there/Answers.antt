use Rattle.exi_processing.proofs.Sequences.{a_run_is_there}
use Rattle.exi_processing.proofs.laws.a_run_is_there.Goals as goal

pub returns : goal.returns
returns c = record { law = a_run_is_there }
