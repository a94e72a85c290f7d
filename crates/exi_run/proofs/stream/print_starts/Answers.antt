use Rattle.std.proofs.Common.{sym}
use Rattle.exi_processing.specs.Reading.{job_of}
use Rattle.exi_run.specs.declared.form.Form.TheVariants as form
use Rattle.exi_run.proofs.Bodies.{body_says}
use Rattle.exi_run.proofs.stream.print_starts.Goals as goal

pub returns : goal.returns
returns g c = rw (c.out-1.given.1 (sym c.read_on.ensures.same)) (body_says form.Starts (λ p. g.O.Sink.taken p.out.now) (λ p. g.O.Sink.faults p.out.now) c.read_on.result (job_of c.args.job.now) _ c.read_on.new.out c.read_on.ensures.read)
