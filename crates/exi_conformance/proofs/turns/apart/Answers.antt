use Rattle.exi_processing.specs.Reading.{job_of}
use Rattle.exi_conformance.proofs.Apart.{apart_of}
use Rattle.exi_conformance.proofs.turns.apart.Goals as goal

pub returns : goal.returns
returns g c = apart_of _ _ c.read_from.result (job_of c.args.job.now) c.args.byte c.args.job.now.limits c.args.inside.now c.read_from.new.out c.args.steps.now c.read_from.new.steps c.read_from.ensures.read
