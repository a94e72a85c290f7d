use Rattle.exi_writer.proofs.Putting.{closes_at_end, closes_none}
use Rattle.exi_writer.proofs.fragments.leave_fragment.Goals as goal

pub returns-in-AtEnd : goal.returns-in-AtEnd
returns-in-AtEnd g c = closes_at_end c.end_document.result c.args.pen.now c.end_document.new.self c.in-AtEnd.ensures c.end_document.ensures.writes

pub returns-in-Nowhere : goal.returns-in-Nowhere
returns-in-Nowhere g c = closes_none c.args.pen.now c.alone.result c.in-Nowhere.is c.alone.ensures
