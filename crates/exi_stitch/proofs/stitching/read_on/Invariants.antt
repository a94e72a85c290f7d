use Rattle.std.proofs.Common.{◌≡◌, ◌≤◌, ◌+◌, ◌-◌, ◌^◌, false}
use Rattle.exi_meter.specs.Metering.{IsWithinStream}
use Rattle.exi_processing.specs.Reading.{IsReached, job_of}
use Rattle.exi_stitch.proofs.Beside.{StitchedTo}
use Rattle.exi_stitch.proofs.stitching.read_on.Given as goal

abbrev pub invariant-loop-reader : goal.invariant-loop-reader
invariant-loop-reader g l = record {
  to : StitchedTo g.E.EventOut.took g.D.Desk.arrives g.D.Desk.returns (job_of l.fn.job) l.fn.job.limits l.fn.out l.fn.desk l.fn.steps l.out l.desk l.steps l.used.items l.reader;
  going : l.reader.waits ≡ false;
  reached : IsReached l.reader;
  within : IsWithinStream l.fn.job.limits;
  job : g.D.Desk.job l.desk ≡ job_of l.fn.job;
  sound : g.D.Desk.sound l.desk;
  desk : g.D.Desk.same l.fn.desk l.desk;
  same : g.E.EventOut.same l.fn.out l.out;
  later : g.E.EventOut.stops l.fn.out ≤ g.E.EventOut.stops l.out;
}

abbrev pub decreases-loop-reader : goal.decreases-loop-reader
decreases-loop-reader g l = l.fn.steps + 2 ^ 27 - l.steps
