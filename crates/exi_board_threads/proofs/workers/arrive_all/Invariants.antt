use Rattle.exi_board.specs.Seats.{IsSeatOf}
use Rattle.exi_board_threads.proofs.workers.arrive_all.Given as goal

abbrev pub invariant-loop-turn : goal.invariant-loop-turn
invariant-loop-turn l = IsSeatOf l.board l.seat
