use Rattle.xsd_paths.proofs.Marking.{known_all}
use Rattle.xsd_paths.proofs.known.Known.of.Goals as goal

pub returns-clause-order : goal.returns-clause-order
returns-clause-order c = (known_all c.args.steps.now c.finish.new.self.order.items c.finish.new.self.marks.items c.in_ok-finish.ensures.known c.in_ok-finish.ensures.settled).0

pub returns-clause-whole : goal.returns-clause-whole
returns-clause-whole c = (known_all c.args.steps.now c.finish.new.self.order.items c.finish.new.self.marks.items c.in_ok-finish.ensures.known c.in_ok-finish.ensures.settled).1
