use Rattle.std.proofs.Common.{◌≡◌, false}
use Rattle.exi_writer.specs.Writing.{MayGoOn}
use Rattle.exi_conformance.proofs.composes.comes_to.Given as goal

abbrev pub invariant-loop-event : goal.invariant-loop-event
invariant-loop-event g l = record {
  going : l.writer.waits ≡ false;
  composed : MayGoOn l.writer;
}
