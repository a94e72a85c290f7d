use Rattle.exi_calendar.proofs.Whole.{value_back}
use Rattle.exi_calendar.proofs.laws.read_is_spelled.Goals as goal

pub returns : goal.returns
returns c = value_back
