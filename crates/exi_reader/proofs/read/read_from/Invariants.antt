use Rattle.std.proofs.Common.{◌≡◌, ◌≤◌, ◌+◌, ◌-◌, ◌^◌, false}
use Rattle.exi_meter.specs.Metering.{IsWithinStream}
use Rattle.exi_processing.specs.Reading.{IsReached, job_of}
use Rattle.exi_processing.proofs.Turning.{CameTo}
use Rattle.exi_reader.proofs.read.read_from.Given as goal

abbrev pub invariant-loop-reader : goal.invariant-loop-reader
invariant-loop-reader g l = record {
  came : CameTo g.E.EventOut.took (job_of l.fn.job) l.fn.start l.fn.limits l.fn.out l.out l.fn.steps l.steps l.reader;
  going : l.reader.waits ≡ false;
  reached : IsReached l.reader;
  within : IsWithinStream l.fn.limits;
  same : g.E.EventOut.same l.fn.out l.out;
  later : g.E.EventOut.stops l.fn.out ≤ g.E.EventOut.stops l.out;
}

abbrev pub decreases-loop-reader : goal.decreases-loop-reader
decreases-loop-reader g l = l.fn.steps + 2 ^ 27 - l.steps
