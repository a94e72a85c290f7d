use Rattle.exi_processing.proofs.Withins.{limits_are_kept}
use Rattle.exi_processing.proofs.laws.limits_are_kept.Goals as goal

pub returns : goal.returns
returns c = record { law = limits_are_kept }
