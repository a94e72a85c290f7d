use Rattle.exi_calendar.proofs.Whole.{value_again}
use Rattle.exi_calendar.proofs.laws.value_comes_back.Goals as goal

pub returns : goal.returns
returns c = value_again
