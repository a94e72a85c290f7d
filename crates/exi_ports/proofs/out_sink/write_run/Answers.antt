use Rattle.exi_ports.proofs.Known.{run_more}
use Rattle.exi_ports.proofs.out_sink.write_run.Goals as goal

pub loop-done-preserved : goal.loop-done-preserved
loop-done-preserved g c =
    run_more _ _ _ _ _ _ c.loop-done.invariant.0 c.in-Ok.ensures.bound c.loop-done.invariant.1 c.in-Ok.ensures.bytes
