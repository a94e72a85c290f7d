use Rattle.std.proofs.Common.{◌≡◌, ◌≤◌, ◌-◌, length}
use Rattle.exi_board.specs.Views.{passing}
use Rattle.exi_board.proofs.board.Board.claim.Given as goal

abbrev pub invariant-loop-seat : goal.invariant-loop-seat
invariant-loop-seat g l = (l.seat.seat.table_id ≡ l.self.table.shared.table_id) × (l.seat.seat.me.0.hints ≡ l.self.table.shared.key) × (l.fn.seat.next ≤ l.seat.next) × (l.seat.seat.me.0 ≡ passing (l.seat.next - l.fn.seat.next) l.fn.seat.seat.me.0)

abbrev pub decreases-loop-seat : goal.decreases-loop-seat
decreases-loop-seat g l = length l.self.hints.offsets.items - l.seat.next
