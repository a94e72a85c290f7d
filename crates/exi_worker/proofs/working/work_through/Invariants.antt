use Rattle.std.proofs.Common.{◌-◌, ◌≤◌}
use Rattle.exi_board.specs.Seats.{IsSeatOf, hint_count, view_of}
use Rattle.exi_board.specs.Views.{tried_by}
use Rattle.exi_pool.specs.Passes.{IsOf}
use Rattle.exi_worker.specs.Hands.{Works, settled_in}
use Rattle.exi_worker.proofs.working.work_through.Given as goal

abbrev pub invariant-loop-hint : goal.invariant-loop-hint
invariant-loop-hint g l = record {
  seat : IsSeatOf l.board l.seat;
  pass : IsOf l.pool l.pass;
  few : settled_in l.worked ≤ tried_by (view_of l.seat);
  works : Works (view_of l.fn.seat) l.fn.pass (view_of l.seat) l.pass l.worked;
}

abbrev pub decreases-loop-hint : goal.decreases-loop-hint
decreases-loop-hint g l = hint_count l.board - tried_by (view_of l.seat)
