use Rattle.std.proofs.Common.{◌≡◌, false}
use Rattle.exi_writer.specs.Writing.{MayGoOn}
use Rattle.exi_conformance.proofs.composes.written.Given as goal

abbrev pub invariant-loop-place : goal.invariant-loop-place
invariant-loop-place g l = record {
  going : l.writer.waits ≡ false;
  composed : MayGoOn l.writer;
}
