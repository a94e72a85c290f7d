use Rattle.exi_names.specs.Lists.{events_of}
use Rattle.exi_processing.specs.Reading.{job_of}
use Rattle.xsd_file.proofs.Found.{comes_from, few_processed}
use Rattle.xsd_file.proofs.document.read_body.Goals as goal

pub by_end-requires : goal.by_end-requires
by_end-requires c = record { few = few_processed (job_of c.args.job.now) (events_of c.in-Ok.events) c.in-Ok.end c.in-Ok.ensures }

pub returns : goal.returns
returns c = comes_from (job_of c.args.job.now) (events_of c.in-Ok.events) c.in-Ok.end c.by_end.result c.in-Ok.ensures c.by_end.ensures
