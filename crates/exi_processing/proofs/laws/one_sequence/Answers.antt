use Rattle.exi_processing.proofs.Sequences.{one_sequence}
use Rattle.exi_processing.proofs.laws.one_sequence.Goals as goal

pub returns : goal.returns
returns c = record { law = one_sequence }
