use Rattle.exi_processing.specs.Reading.{job_of}
use Rattle.exi_worker.proofs.Holding.{held_after, held_given}
use Rattle.exi_worker.proofs.list_desk.ListDeskDesk.arrive.Goals as goal

pub returns-clause-sound : goal.returns-clause-sound
returns-clause-sound c = held_after (job_of c.args.self.now.job) c.args.byte c.args.self.now.held.items c.take_first.result c.take_first.new.held.items c.requires.sound c.take_first.ensures.gives

pub returns-clause-outcome : goal.returns-clause-outcome
returns-clause-outcome c = held_given (job_of c.args.self.now.job) c.args.byte c.args.self.now.held.items c.take_first.result c.take_first.new.held.items c.requires.sound c.take_first.ensures.gives
