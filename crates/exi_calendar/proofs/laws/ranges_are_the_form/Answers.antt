use Rattle.exi_calendar.proofs.Ranges.{ranges_are}
use Rattle.exi_calendar.proofs.laws.ranges_are_the_form.Goals as goal

pub returns : goal.returns
returns c = ranges_are
