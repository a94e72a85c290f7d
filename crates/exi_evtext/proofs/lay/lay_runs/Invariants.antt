use Rattle.std.proofs.Common.{◌≡◌, ◌≤◌, ◌+◌, ◌*◌, ◌-◌, ◌++◌, drop, length, take}
use Rattle.std.specs.List.{flat_map}
use Rattle.exi_evtext.specs.Lines.{escaped}
use Rattle.exi_evtext.proofs.lay.lay_runs.Given as goal

abbrev pub invariant-loop-done : goal.invariant-loop-done
invariant-loop-done l = record {
  within : l.done ≤ length l.bytes;
  room : l.end + 2 * (length l.bytes - l.done) ≤ l.fn.at + 2 * length l.bytes;
  len : length l.room ≡ length l.fn.room;
  done : take l.end l.room ++ flat_map escaped (drop l.done l.bytes) ≡ take l.fn.at l.fn.room ++ flat_map escaped l.bytes;
}

abbrev pub decreases-loop-done : goal.decreases-loop-done
decreases-loop-done l = length l.bytes - l.done
