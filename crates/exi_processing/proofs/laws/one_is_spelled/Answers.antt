use Rattle.exi_processing.proofs.EventOne.{one_is_spelled}
use Rattle.exi_processing.proofs.laws.one_is_spelled.Goals as goal

pub returns : goal.returns
returns c = record { law = one_is_spelled }
