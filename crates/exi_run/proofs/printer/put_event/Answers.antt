use Rattle.std.proofs.Common.{Ok, arith}
use Rattle.exi_names.specs.Shown.{shows}
use Rattle.exi_run.specs.declared.form.Form.TheVariants as form
use Rattle.exi_run.proofs.Printed.{puts_event}
use Rattle.exi_run.proofs.printer.put_event.Goals as goal

pub returns-then-lay : goal.returns-then-lay
returns-then-lay g c =
    puts_event form.Text (shows c.args.event.now) (Ok tt) (g.O.Sink.taken c.args.out.now) (g.O.Sink.taken c.lay.new.self) (g.O.Sink.faults c.args.out.now) (g.O.Sink.faults c.lay.new.self)
    (c.lay.ensures.taken c.if-lay.true, omega (arith, c.lay.ensures.unmoved))
