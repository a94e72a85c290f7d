use Rattle.exi_processing.proofs.Fewness.{few_after_turns}
use Rattle.exi_processing.proofs.laws.few_after_turns.Goals as goal

pub returns : goal.returns
returns c = record { law = few_after_turns }
