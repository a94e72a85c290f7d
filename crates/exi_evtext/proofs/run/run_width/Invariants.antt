use Rattle.std.proofs.Common.{◌≤◌, ◌-◌, length}
use Rattle.exi_evtext.specs.Plain.{AllPass, is_inside_run}
use Rattle.exi_evtext.proofs.run.run_width.Given as goal

-- the bytes so far pass
abbrev pub invariant-loop-done : goal.invariant-loop-done
invariant-loop-done l = (l.done ≤ length l.bytes) × AllPass is_inside_run l.bytes 0 l.done

abbrev pub decreases-loop-done : goal.decreases-loop-done
decreases-loop-done l = length l.bytes - l.done
