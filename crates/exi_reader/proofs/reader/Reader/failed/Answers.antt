use Rattle.exi_processing.proofs.Turning.{failed_in}
use Rattle.exi_reader.proofs.reader.Reader.failed.Goals as goal

pub returns-clause-end : goal.returns-clause-end
returns-clause-end g c = failed_in c.args.fault c.self.inside.stepper c.self.inside.waits c.args.self.now c.failed.result c.self.view_is c.requires.going c.failed.ensures.end
