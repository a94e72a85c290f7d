use Rattle.std.proofs.Common.{ℕ, ◌≡◌, ◌+◌, ◌≤◌, ◌++◌, length}
use Rattle.exi_tape.specs.Rolls.{times}
use Rattle.exi_tape.proofs.roll.Roll.write_across.Given as goal

abbrev pub invariant-loop-rest : goal.invariant-loop-rest
invariant-loop-rest l =
    (l.self.bytes ++ l.rest ≡ l.fn.self.bytes ++ l.bytes)
    × (l.self.room + length l.bytes ≡ l.fn.self.room + length l.rest)
    × (length l.rest ≤ l.self.room)
    × ((n : ℕ) → times n l.self.pages ≡ times n l.fn.self.pages)

abbrev pub decreases-loop-rest : goal.decreases-loop-rest
decreases-loop-rest l = length l.rest
