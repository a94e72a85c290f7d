use Rattle.std.proofs.Common.{◌-◌, ◌≤◌, length, take}
use Rattle.std.specs.Str.{IsAscii}
use Rattle.exi_text.proofs.write.ascii_front.Given as goal

abbrev pub invariant-loop-run : goal.invariant-loop-run
invariant-loop-run l = record {
  within : l.run ≤ length l.octets;
  ascii : IsAscii (take l.run l.octets);
}

abbrev pub decreases-loop-run : goal.decreases-loop-run
decreases-loop-run l = length l.octets - l.run

abbrev pub invariant-loop-run-2 : goal.invariant-loop-run-2
invariant-loop-run-2 l = record {
  within : l.run ≤ length l.octets;
  ascii : IsAscii (take l.run l.octets);
}

abbrev pub decreases-loop-run-2 : goal.decreases-loop-run-2
decreases-loop-run-2 l = length l.octets - l.run
