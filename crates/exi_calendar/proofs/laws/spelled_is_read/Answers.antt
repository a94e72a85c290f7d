use Rattle.exi_calendar.proofs.Whole.{value_spelled}
use Rattle.exi_calendar.proofs.laws.spelled_is_read.Goals as goal

pub returns : goal.returns
returns c = value_spelled
