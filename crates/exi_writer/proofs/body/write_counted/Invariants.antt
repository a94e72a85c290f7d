use Rattle.std.proofs.Common.{map}
use Rattle.exi_names.specs.Events.{happens}
use Rattle.exi_writer.proofs.Lists.{SoFar}
use Rattle.exi_writer.proofs.body.write_counted.Given as goal

abbrev pub invariant-loop-event : goal.invariant-loop-event
invariant-loop-event g l = SoFar l.fn.book l.fn.limits l.fn.head (map happens l.fn.events) l.event-index l.list
