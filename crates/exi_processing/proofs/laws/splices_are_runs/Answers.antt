use Rattle.exi_processing.proofs.SpliceRuns.{splices_are_runs}
use Rattle.exi_processing.proofs.laws.splices_are_runs.Goals as goal

pub returns : goal.returns
returns c = record { law = splices_are_runs }
