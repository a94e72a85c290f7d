use Rattle.std.proofs.Common.{◌≤◌, ◌-◌, length}
use Rattle.exi_evtext.specs.Plain.{AllPass, is_inside_run}
use Rattle.exi_evtext.proofs.run.run_end.Given as goal

-- the bytes so far pass
abbrev pub invariant-loop-end : goal.invariant-loop-end
invariant-loop-end l = (l.end ≤ length l.bytes) × AllPass is_inside_run l.bytes 0 l.end

abbrev pub decreases-loop-end : goal.decreases-loop-end
decreases-loop-end l = length l.bytes - l.end
