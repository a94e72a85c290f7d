use Rattle.std.proofs.Common.{◌≡◌, ◌≤◌, ◌-◌, map, All}
use Rattle.exi_board.specs.Seats.{view_of, IsSeatOn}
use Rattle.exi_board.specs.Views.{new_view, later_views}
use Rattle.exi_board.proofs.making.make_seats.Given as goal

abbrev pub invariant-loop-number : goal.invariant-loop-number
invariant-loop-number g l =
    (l.first.table_id ≡ l.table.table_id) × (l.first.me.0 ≡ new_view l.table.key 0 l.number) × (map view_of l.all.items ≡ later_views l.table.key (l.number - 1)) × All (IsSeatOn l.table.table_id l.table.key) l.all.items × (1 ≤ l.number) × (l.number ≤ l.seats)
