use Rattle.std.proofs.Common.{List, ℕ, ◌++◌, ap, ◌∙◌}
use Rattle.exi_evtext.specs.Lines.{line_of}
use Rattle.exi_names.specs.Shown.{shows}
use Rattle.exi_run.specs.Printing.{prints_none}
use Rattle.exi_run.specs.declared.form.Form.TheVariants as form
use Rattle.exi_run.proofs.Printed.{puts_event, puts_text}
use Rattle.exi_run.proofs.printer.put_long.Goals as goal

pub returns : goal.returns
returns g c =
    let piece = c.as_bytes.ensures.value ∙ c.in-Ok.ensures.ok ∙ ap (λ (t : List ℕ). t ++ line_of (shows c.args.event.now)) c.clear.ensures.bytes in
    puts_event form.Text (shows c.args.event.now) c.put.result (g.O.Sink.taken c.args.out.now) (g.O.Sink.taken c.put.new.self) (g.O.Sink.faults c.args.out.now) (g.O.Sink.faults c.put.new.self)
    (puts_text c.put.result (g.O.Sink.taken c.args.out.now) (g.O.Sink.taken c.put.new.self) (g.O.Sink.faults c.args.out.now) (g.O.Sink.faults c.put.new.self) c.as_bytes.result.now (line_of (shows c.args.event.now)) piece c.put.ensures.ok c.put.ensures.part c.put.ensures.memory c.put.ensures.later c.put.ensures.failed)

pub returns-in_default : goal.returns-in_default
returns-in_default g c = prints_none form.Text (g.O.Sink.taken c.args.out.now) (g.O.Sink.faults c.args.out.now)
