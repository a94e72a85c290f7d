use Rattle.exi_processing.proofs.Sequences.{never_back}
use Rattle.exi_processing.proofs.laws.never_back.Goals as goal

pub returns : goal.returns
returns c = record { law = never_back }
