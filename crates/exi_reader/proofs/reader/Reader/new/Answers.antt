use Rattle.exi_processing.specs.Reading.{job_of}
use Rattle.exi_processing.proofs.Turning.{reached_first, standing_view}
use Rattle.exi_reader.proofs.reader.Reader.new.Goals as goal

pub returns-clause-reached : goal.returns-clause-reached
returns-clause-reached g c = reached_first (job_of c.args.job.now) c.args.start c.args.limits _ (standing_view (job_of c.args.job.now) c.in_ok-new.field-0 _ c.in_ok-new.ensures.first) c.in_ok-new.ensures.within c.in_ok-new.ensures.book c.in_ok-new.ensures.names c.in_ok-new.ensures.octets
