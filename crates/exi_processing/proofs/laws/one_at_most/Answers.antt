use Rattle.exi_processing.proofs.EventOne.{one_at_most}
use Rattle.exi_processing.proofs.laws.one_at_most.Goals as goal

pub returns : goal.returns
returns c = record { law = one_at_most }
