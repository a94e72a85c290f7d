use Rattle.exi_processing.proofs.Sequences.{one_run}
use Rattle.exi_processing.proofs.laws.one_run.Goals as goal

pub returns : goal.returns
returns c = record { law = one_run }
