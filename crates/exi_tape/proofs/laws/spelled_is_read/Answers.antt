use Rattle.exi_tape.proofs.Back.{event_back}
use Rattle.exi_tape.proofs.laws.spelled_is_read.Goals as goal

pub returns : goal.returns
returns c = event_back
