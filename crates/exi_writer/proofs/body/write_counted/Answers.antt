use Rattle.std.proofs.Common.{◌+◌, arith}
use Rattle.exi_names.specs.Events.{happens}
use Rattle.exi_writer.proofs.Lists.{so_far_more}
use Rattle.exi_writer.proofs.body.write_counted.Goals as goal

pub loop-event-preserved : goal.loop-event-preserved
loop-event-preserved g c =
    so_far_more happens c.args.book.now c.args.limits c.args.head c.args.events.now c.loop-event.event-index (c.loop-event.event-index + 1) c.loop-event.list c.push.new.self c.event-item.result c.loop-event.invariant c.loop-event-test.true c.event-item.is (omega arith) c.push.ensures.taken c.push.ensures.going c.push.ensures.number
