use Rattle.exi_processing.proofs.Turning.{turns_closed, turns_faulted}
use Rattle.exi_reader.proofs.reader.Reader.turn.Goals as goal

pub returns-in-Over-clause-turned : goal.returns-in-Over-clause-turned
returns-in-Over-clause-turned g c = turns_closed g.E.EventOut.took g.E.EventOut.broke c.args.out.now c.come.new.out c.closing.result c.args.self.now c.come.new.self c.closing.new.self c.closing.ensures.end (rw c.in-Over.is at c.in_ok-come.ensures.turned)

pub returns-in-Failed-clause-turned : goal.returns-in-Failed-clause-turned
returns-in-Failed-clause-turned g c = turns_faulted g.E.EventOut.took g.E.EventOut.broke c.args.out.now c.come.new.out c.in-Failed.fault c.failed.result c.args.self.now c.come.new.self c.failed.new.self c.failed.ensures.end (rw c.in-Failed.is at c.in_ok-come.ensures.turned)
