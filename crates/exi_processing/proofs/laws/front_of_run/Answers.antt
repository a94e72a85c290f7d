use Rattle.exi_processing.proofs.Sequences.{front_of_run}
use Rattle.exi_processing.proofs.laws.front_of_run.Goals as goal

pub returns : goal.returns
returns c = record { law = front_of_run }
