-- A board and its seats, as contracts name them.
use Rattle.std.specs.Prelude.{◌≡◌, ℕ, List, length}
use Rattle.atomic_table.specs.Seated.{TableId}
use Rattle.exi_board.specs.declared.view.SeatView.{SeatView}
use Rattle.exi_board.specs.declared.view.Hints.{Hints}
use Rattle.exi_board.specs.declared.board.Board.{Board}
use Rattle.exi_board.specs.declared.seat.BoardSeat.{BoardSeat}

-- the view of a seat
abbrev pub view_of : {P N : Type 0} → BoardSeat P N → SeatView N
view_of s = s.seat.me.0

-- the hints of a board, their offsets, and the note
abbrev pub hints_of : {P N : Type 0} → Board P N → Hints N
hints_of b = b.table.shared.key

abbrev pub offsets_of : {P N : Type 0} → Board P N → List ℕ
offsets_of b = b.table.shared.key.offsets.items

abbrev pub note_of : {P N : Type 0} → Board P N → N
note_of b = b.table.shared.key.note

-- how many hints a board has
abbrev pub hint_count : {P N : Type 0} → Board P N → ℕ
hint_count b = length (offsets_of b)

-- the seat steps on this table, and knows these hints
abbrev pub IsSeatOn : {P N : Type 0} → TableId → Hints N → BoardSeat P N → Type 0
IsSeatOn table hints s = (s.seat.table_id ≡ table) × (s.seat.me.0.hints ≡ hints)

-- the seat was made with the board
abbrev pub IsSeatOf : {P N : Type 0} → Board P N → BoardSeat P N → Type 0
IsSeatOf b s = IsSeatOn b.table.shared.table_id b.table.shared.key s
