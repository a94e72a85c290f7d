use Rattle.std.proofs.Common.{sym, ◌∙◌, subst, List, ℕ}
use Rattle.std.specs.List.Sorted.{IsStrictlyIncreasing}
use Rattle.exi_board.proofs.Finds.{absent}
use Rattle.exi_board.specs.Arrivals.{IsHintOf}
use Rattle.exi_board.proofs.board.Board.find.Goals as goal

pub returns-in-Err-clause-none : goal.returns-in-Err-clause-none
returns-in-Err-clause-none g c =
    let board = c.args.self.now in
    subst (λ (xs : List ℕ). (k : ℕ) → ¬ IsHintOf xs c.args.offset k) (c.as_slice.ensures.value ∙ board.same)
    (absent c.as_slice.result.now c.args.offset c.in-Err.field-0 (subst IsStrictlyIncreasing (sym c.as_slice.ensures.value) board.rising) c.in-Err.ensures.position)
