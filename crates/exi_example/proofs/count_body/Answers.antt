use Rattle.exi_processing.specs.Reading.{job_of}
use Rattle.exi_example.proofs.Counted.{counted_all, wrong_at}
use Rattle.exi_example.proofs.count_body.Goals as goal

pub returns-in-Ok-Done : goal.returns-in-Ok-Done
returns-in-Ok-Done c = counted_all (job_of c.args.job.now) c.in-Ok-Done.field-0-0 c.in-Ok-Done.field-0-1 c.in-Ok-Done.field-0-2 c.read_on.new.out (rw c.in-Ok-Done.field-0-is at c.in-Ok-Done.ensures)

pub returns-in-Ok-Fault : goal.returns-in-Ok-Fault
returns-in-Ok-Fault c = wrong_at (job_of c.args.job.now) c.in-Ok-Fault.fault c.in-Ok-Fault.field-0-1 c.in-Ok-Fault.field-0-2 c.read_on.new.out (rw c.in-Ok-Fault.field-0-is at c.in-Ok-Fault.ensures)
