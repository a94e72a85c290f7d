use Rattle.std.proofs.Common.{◌≡◌, false}
use Rattle.exi_processing.specs.Reading.{IsReached, job_of}
use Rattle.exi_conformance.specs.Turns.{IsOf}
use Rattle.exi_conformance.proofs.turns.to_end.Given as goal

abbrev pub invariant-loop : goal.invariant-loop
invariant-loop g l = record {
  of : IsOf (job_of l.fn.job) l.reader;
  reached : IsReached l.reader;
  going : l.reader.waits ≡ false;
}
