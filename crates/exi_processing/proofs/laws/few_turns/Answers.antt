use Rattle.exi_processing.proofs.Sequences.{few_turns}
use Rattle.exi_processing.proofs.laws.few_turns.Goals as goal

pub returns : goal.returns
returns c = record { law = few_turns }
