use Rattle.exi_processing.proofs.Sequences.{a_sequence_is_there}
use Rattle.exi_processing.proofs.laws.a_sequence_is_there.Goals as goal

pub returns : goal.returns
returns c = record { law = a_sequence_is_there }
