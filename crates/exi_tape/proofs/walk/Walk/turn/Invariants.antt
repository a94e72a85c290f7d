use Rattle.std.proofs.Common.{◌≡◌, length}
use Rattle.exi_tape.specs.Walks.{left}
use Rattle.exi_tape.proofs.walk.Walk.turn.Given as goal

abbrev pub invariant-loop-self : goal.invariant-loop-self
invariant-loop-self l = (left l.self ≡ left l.fn.self) × (l.self.pieces ≡ l.fn.self.pieces)

abbrev pub decreases-loop-self : goal.decreases-loop-self
decreases-loop-self l = length l.self.later.items
