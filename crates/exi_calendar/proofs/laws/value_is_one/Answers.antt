use Rattle.exi_calendar.proofs.Whole.{one_value}
use Rattle.exi_calendar.proofs.laws.value_is_one.Goals as goal

pub returns : goal.returns
returns c = one_value
