use Rattle.std.proofs.Common.{ℕ, ◌≡◌, ◌+◌, ◌-◌, ◌*◌, ◌≤◌, length}
use Rattle.exi_pool.specs.Passes.{view_of, IsOf}
use Rattle.exi_pool.specs.Views.{SameStart, takes}
use Rattle.exi_tape.specs.Rolls.{times}
use Rattle.exi_tape.proofs.roll.Roll.reserve.Given as goal

abbrev pub invariant-loop-pass : goal.invariant-loop-pass
invariant-loop-pass g l =
    IsOf l.pool l.pass
    × (l.self.bytes ≡ l.fn.self.bytes)
    × ((n : ℕ) → times n l.self.pages + takes n (view_of l.fn.pass) ≡ times n l.fn.self.pages + takes n (view_of l.pass))
    × ((view_of l.pass).gives ≡ (view_of l.fn.pass).gives)
    × (4096 * length (view_of l.pass).takes ≤ 4096 * (length (view_of l.fn.pass).takes + 1) + l.more)
    × (l.self.room + 4096 * length (view_of l.fn.pass).takes ≡ l.fn.self.room + 4096 * length (view_of l.pass).takes)
    × (l.fn.pass.dry ≤ l.pass.dry)
    × SameStart (view_of l.fn.pass) (view_of l.pass)

abbrev pub decreases-loop-pass : goal.decreases-loop-pass
decreases-loop-pass g l = l.more - l.self.room
