use Rattle.exi_evtext.proofs.Runs.{steps_of}
use Rattle.exi_evtext.proofs.cursor.Cursor.step.Goals as goal

pub returns-clause-read : goal.returns-clause-read
returns-clause-read c = steps_of c.run.result c.args.content.now.items c.run.new.content.items c.args.self.now c.run.new.self c.run.ensures.read
