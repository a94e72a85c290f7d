use Rattle.std.proofs.Common.{◌≡◌, ◌-◌, take}
use Rattle.std.specs.List.{flat_map}
use Rattle.exi_evtext.specs.Lines.{escaped}
use Rattle.exi_evtext.proofs.quote.is_plain.Given as goal

abbrev pub invariant-loop-done : goal.invariant-loop-done
invariant-loop-done l = flat_map escaped (take l.done l.bytes) ≡ take l.done l.bytes

abbrev pub decreases-loop-done : goal.decreases-loop-done
decreases-loop-done l = l.last - l.done
