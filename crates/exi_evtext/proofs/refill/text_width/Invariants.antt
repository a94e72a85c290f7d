use Rattle.std.proofs.Common.{◌-◌, length}
use Rattle.exi_evtext.specs.Plain.{IsTextFront}
use Rattle.exi_evtext.proofs.refill.text_width.Given as goal

-- the bytes so far are UTF-8 that stands for itself
abbrev pub invariant-loop-done : goal.invariant-loop-done
invariant-loop-done l = IsTextFront l.bytes l.done

abbrev pub decreases-loop-done : goal.decreases-loop-done
decreases-loop-done l = length l.bytes - l.done
