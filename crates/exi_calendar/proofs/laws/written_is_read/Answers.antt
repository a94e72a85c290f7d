use Rattle.exi_calendar.proofs.Whole.{canonical_value}
use Rattle.exi_calendar.proofs.laws.written_is_read.Goals as goal

pub returns : goal.returns
returns c = canonical_value
