use Rattle.exi_evtext.proofs.LineWise.{all_left}
use Rattle.exi_evtext.proofs.lines.EventLines.new.Goals as goal

pub returns-clause-events : goal.returns-clause-events
returns-clause-events c = all_left c.args.bytes.now
