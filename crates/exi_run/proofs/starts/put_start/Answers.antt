use Rattle.exi_names.specs.Shown.{shows}
use Rattle.exi_run.proofs.Printed.{puts_none, puts_start}
use Rattle.exi_run.proofs.starts.put_start.Goals as goal

pub returns-in-Some : goal.returns-in-Some
returns-in-Some g c = puts_start (shows c.args.event.now) c.in-Some.at c.put_hint.result (g.O.Sink.taken c.args.out.now) (g.O.Sink.taken c.put_hint.new.out) (g.O.Sink.faults c.args.out.now) (g.O.Sink.faults c.put_hint.new.out) c.in-Some.ensures c.put_hint.ensures

pub returns-in-None : goal.returns-in-None
returns-in-None g c = puts_none (shows c.args.event.now) (g.O.Sink.taken c.args.out.now) (g.O.Sink.faults c.args.out.now) c.in-None.ensures
