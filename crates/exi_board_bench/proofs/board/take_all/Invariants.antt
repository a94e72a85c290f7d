use Rattle.std.proofs.Common.{◌-◌}
use Rattle.exi_board.specs.Seats.{IsSeatOf, view_of, hint_count}
use Rattle.exi_board.specs.Views.{tried_by}
use Rattle.exi_board_bench.proofs.board.take_all.Given as goal

abbrev pub invariant-loop-hint : goal.invariant-loop-hint
invariant-loop-hint l = IsSeatOf l.board l.seat

abbrev pub decreases-loop-hint : goal.decreases-loop-hint
decreases-loop-hint l = hint_count l.board - tried_by (view_of l.seat)
