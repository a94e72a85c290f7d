use Rattle.exi_processing.proofs.Reached.{reached_are_sound}
use Rattle.exi_processing.proofs.laws.reached_are_sound.Goals as goal

pub returns : goal.returns
returns c = record { law = reached_are_sound }
