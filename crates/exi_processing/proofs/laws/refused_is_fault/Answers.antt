use Rattle.exi_processing.proofs.Refusals.{refused_is_fault}
use Rattle.exi_processing.proofs.laws.refused_is_fault.Goals as goal

pub returns : goal.returns
returns c = record { law = refused_is_fault }
