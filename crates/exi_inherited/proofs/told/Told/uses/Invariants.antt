use Rattle.std.proofs.Common.{◌≡◌, drop}
use Rattle.exi_inherited.specs.Told.{left_of}
use Rattle.exi_inherited.proofs.told.Told.uses.Given as goal

abbrev pub invariant-loop-left : goal.invariant-loop-left
invariant-loop-left l = l.uses.items ≡ left_of (drop l.left l.fn.self)

abbrev pub decreases-loop-left : goal.decreases-loop-left
decreases-loop-left l = l.left
