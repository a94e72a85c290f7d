use Rattle.std.proofs.Common.{List, ℕ, ◌++◌, ap, ◌∙◌}
use Rattle.exi_index.specs.Hints.{line_of}
use Rattle.exi_run.proofs.Printed.{puts_text}
use Rattle.exi_run.proofs.starts.put_hint.Goals as goal

pub returns : goal.returns
returns g c =
    let piece = c.as_bytes.ensures.value ∙ c.in-Ok.ensures ∙ ap (λ (t : List ℕ). t ++ line_of c.args.at) c.clear.ensures.bytes in
    puts_text c.put.result (g.O.Sink.taken c.args.out.now) (g.O.Sink.taken c.put.new.self) (g.O.Sink.faults c.args.out.now) (g.O.Sink.faults c.put.new.self) c.as_bytes.result.now (line_of c.args.at) piece c.put.ensures.ok c.put.ensures.part c.put.ensures.memory c.put.ensures.later c.put.ensures.failed
