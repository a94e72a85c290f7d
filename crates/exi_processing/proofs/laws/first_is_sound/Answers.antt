use Rattle.exi_processing.proofs.Reached.{first_is_sound}
use Rattle.exi_processing.proofs.laws.first_is_sound.Goals as goal

pub returns : goal.returns
returns c = record { law = first_is_sound }
