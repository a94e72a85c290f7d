use Rattle.exi_processing.proofs.Fitting.{codes_fit}
use Rattle.exi_processing.proofs.laws.codes_fit.Goals as goal

pub returns : goal.returns
returns c = record { law = codes_fit }
