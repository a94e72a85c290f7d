-- What an arrival answers.
use Rattle.std.specs.Prelude.{◌≡◌, ℕ, ◌+◌, ◌<◌, List, [], length, slice_index}
use Rattle.exi_board.specs.declared.arrival.Arrival.{Arrival}
use Rattle.exi_board.specs.declared.arrival.Arrival.TheVariants as arrival
use Rattle.exi_board.specs.declared.view.SeatView.{SeatView}
use Rattle.exi_board.specs.declared.board.Board.{Board}
use Rattle.exi_board.specs.declared.seat.BoardSeat.{BoardSeat}
use Rattle.exi_board.specs.Seats.{view_of, offsets_of}
use Rattle.exi_board.specs.Views.{with_arrival}

-- k is the hint of this offset
abbrev pub IsHintOf : List ℕ → ℕ → ℕ → Type 0
IsHintOf offsets offset k = (k < length offsets) × (slice_index offsets k ≡ offset)

-- the view grew by one arrival, at the hint of this offset, which found the word n and took these pages; all else of it is as before
abbrev pub HasOneArrival : {N : Type 0} → List ℕ → ℕ → ℕ → List ℕ → SeatView N → SeatView N → Type 0
HasOneArrival offsets offset n pages v w = (k : ℕ) × IsHintOf offsets offset k × (w ≡ with_arrival k n pages v)

-- the answer by the word that was found, and what that says of the seat's view before and after. `pages` are those of a posting
abbrev pub IsArrival : {P N : Type 0} → (P → List ℕ) → Board P N → ℕ → BoardSeat P N → Arrival P → BoardSeat P N → Type 0
IsArrival pages b offset s (arrival.Posted p) t = HasOneArrival (offsets_of b) offset 1 (pages p) (view_of s) (view_of t)
IsArrival pages b offset s arrival.Mine t = HasOneArrival (offsets_of b) offset 0 [] (view_of s) (view_of t)
IsArrival pages b offset s (arrival.Busy n) t = HasOneArrival (offsets_of b) offset (3 + n) [] (view_of s) (view_of t)
IsArrival pages b offset s arrival.Spent t = HasOneArrival (offsets_of b) offset 2 [] (view_of s) (view_of t)
IsArrival pages b offset s arrival.NotHinted t = ((k : ℕ) → ¬ IsHintOf (offsets_of b) offset k) × (view_of t ≡ view_of s)

-- what holds of the posting, where one was taken
abbrev pub IfPosted : {P : Type 0} → Arrival P → (P → Type 0) → Type 0
IfPosted (arrival.Posted p) holds = holds p
IfPosted arrival.Mine holds = Unit {0}
IfPosted (arrival.Busy n) holds = Unit {0}
IfPosted arrival.Spent holds = Unit {0}
IfPosted arrival.NotHinted holds = Unit {0}
