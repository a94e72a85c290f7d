use Rattle.exi_processing.specs.Reading.{job_of}
use Rattle.exi_worker.proofs.Holding.{held_more, held_same}
use Rattle.exi_worker.proofs.list_desk.ListDesk.hold.Goals as goal

pub returns-in_err-push-clause-sound : goal.returns-in_err-push-clause-sound
returns-in_err-push-clause-sound c = held_same (job_of c.args.self.now.job) c.args.self.now.held.items c.push.new.self.items c.requires.sound c.in_err-push.ensures.items

pub returns-clause-sound : goal.returns-clause-sound
returns-clause-sound c = held_more (job_of c.args.self.now.job) c.args.self.now.held.items c.push.new.self.items c.args.byte c.args.posting c.requires.sound c.requires.outcome c.in_ok-push.ensures.items
