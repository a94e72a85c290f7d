use Rattle.std.proofs.Common.{◌∙◌, ap, drop}
use Rattle.exi_ports.specs.Edge.{OutState}
use Rattle.exi_ports.proofs.out_sink.OutSinkSink.put.Goals as goal

pub returns-clause-rest : goal.returns-clause-rest
returns-clause-rest g c failed =
    let rest = c.gather-taken.ensures.rest (c.counted.ensures.failed failed) in
    (rest.0, c.counted.ensures.same ∙ rest.1 ∙ ap (λ (s : OutState). drop rest.0 s.waiting) c.self.view_is)
