use Rattle.std.proofs.Common.{ℕ, ◌≡◌, ◌+◌, length}
use Rattle.exi_pool.specs.Pages.{chain, numbers}
use Rattle.exi_pool.specs.Passes.{view_of, IsOf}
use Rattle.exi_pool.specs.Views.{SameStart, gives}
use Rattle.exi_tape.specs.Rolls.{times}
use Rattle.exi_tape.proofs.roll.give_chain.Given as goal

abbrev pub invariant-loop-next : goal.invariant-loop-next
invariant-loop-next g l =
    IsOf l.pool l.pass
    × ((n : ℕ) → gives n (view_of l.pass) + times n (numbers (chain l.next)) ≡ gives n (view_of l.fn.pass) + times n (numbers (chain l.fn.pages)))
    × ((view_of l.pass).takes ≡ (view_of l.fn.pass).takes)
    × (l.pass.dry ≡ l.fn.pass.dry)
    × SameStart (view_of l.fn.pass) (view_of l.pass)

abbrev pub decreases-loop-next : goal.decreases-loop-next
decreases-loop-next g l = length (chain l.next)
