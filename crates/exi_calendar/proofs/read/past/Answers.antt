use Rattle.exi_calendar.proofs.Pieces.{past_told}
use Rattle.exi_calendar.proofs.read.past.Goals as goal

pub returns : goal.returns
returns c = past_told c.args.marks.now c.args.text.now c.strip_prefix.result c.strip_prefix.ensures.cases
