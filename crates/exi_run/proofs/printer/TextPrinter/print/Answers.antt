use Rattle.std.proofs.Common.{Ok, arith}
use Rattle.exi_names.specs.Shown.{shows}
use Rattle.exi_run.specs.declared.form.Form.TheVariants as form
use Rattle.exi_run.proofs.Printed.{puts_event}
use Rattle.exi_run.proofs.printer.TextPrinter.print.Goals as goal

pub returns-then-lay-clause-printed : goal.returns-then-lay-clause-printed
returns-then-lay-clause-printed g c =
    puts_event form.Text (shows c.args.event.now) (Ok tt) (g.O.Sink.taken c.args.self.now.out.now) (g.O.Sink.taken c.lay.new.self) (g.O.Sink.faults c.args.self.now.out.now) (g.O.Sink.faults c.lay.new.self)
    (c.lay.ensures.taken c.if-lay.true, omega (arith, c.lay.ensures.unmoved))
