use Rattle.exi_processing.proofs.Soundness.{steps_keep_sound}
use Rattle.exi_processing.proofs.laws.steps_keep_sound.Goals as goal

pub returns : goal.returns
returns c = record { law = steps_keep_sound }
