use Rattle.exi_processing.proofs.Turning.{closed_in}
use Rattle.exi_reader.proofs.reader.Reader.closing.Goals as goal

pub returns-clause-end : goal.returns-clause-end
returns-clause-end g c = closed_in c.self.inside.stepper c.self.inside.waits c.args.self.now c.closing.result c.self.view_is c.requires.going c.closing.ensures.end
