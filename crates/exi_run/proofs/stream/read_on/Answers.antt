use Rattle.exi_processing.specs.Reading.{job_of}
use Rattle.exi_run.proofs.Bodies.{within_stream}
use Rattle.exi_run.proofs.stream.read_on.Goals as goal

pub returns-clause-read : goal.returns-clause-read
returns-clause-read g c = within_stream g.E.EventOut.took g.E.EventOut.broke c.read_from.result (job_of c.args.job.now) c.of_stream-limits.result c.args.out.now c.read_from.new.out _ _ c.of_stream-limits.ensures c.read_from.ensures.read
