-- What the desks of this crate do when they are asked for a posting, and when one comes back.
use Rattle.std.specs.Prelude.{◌≡◌, ◌==◌, ℕ, ◌+◌, Bool, slice_index_or, position, remove, List, All, Option, Some, None}
use Rattle.exi_board.specs.Arrivals.{IsArrival}
use Rattle.exi_board.specs.declared.arrival.Arrival.{Arrival}
use Rattle.exi_board.specs.declared.arrival.Arrival.TheVariants as arrival
use Rattle.exi_board.specs.declared.board.Board.{Board}
use Rattle.exi_board.specs.declared.seat.BoardSeat.{BoardSeat}
use Rattle.exi_pool.specs.Passes.{dry_of, view_of}
use Rattle.exi_pool.specs.Views.{SameStart, gives}
use Rattle.exi_pool.specs.declared.pass.PoolPass.{PoolPass}
use Rattle.exi_processing.specs.Runs.{Job}
use Rattle.exi_tape.specs.Rolls.{times}
use Rattle.exi_worker.specs.declared.held.Held.{Held}
use Rattle.exi_worker.specs.declared.note.JobNote.{JobNote}
use Rattle.exi_worker.specs.declared.posting.Posting.{Posting}
use Rattle.exi_worker.specs.Outcomes.{IsPostingAt, pages_in}

-- ---- a board
-- the posting that an arrival took
abbrev pub taken_by : Arrival Posting → Option Posting
taken_by (arrival.Posted p) = Some p
taken_by arrival.Mine = None
taken_by (arrival.Busy n) = None
taken_by arrival.Spent = None
taken_by arrival.NotHinted = None

-- the seat arrived at the hint of this byte once, where there is one, and this is what it took
abbrev pub TookAt : Board Posting JobNote → ℕ → BoardSeat Posting JobNote → Option Posting → BoardSeat Posting JobNote → Type 0
TookAt b byte s given t = (a : Arrival Posting) × (taken_by a ≡ given) × IsArrival pages_in b byte s a t

-- the pass gave the pages of the posting back, and took none
pub record GaveBack (old : PoolPass) (p : Posting) (new : PoolPass) : Type 0 where
  pub gives : (n : ℕ) → gives n (view_of new) ≡ gives n (view_of old) + times n (pages_in p)
  pub takes : (view_of new).takes ≡ (view_of old).takes
  pub start : SameStart (view_of old) (view_of new)
  pub dry : dry_of new ≡ dry_of old

-- ---- a list
-- each posting that is held is what came of the fragment at its byte, under some limits
abbrev pub AllPostings : Job → List Held → Type 0
AllPostings j held = All (λ (h : Held). IsPostingAt j h.byte h.posting) held

abbrev pub is_for : ℕ → Held → Bool
is_for byte h = h.byte == byte

-- what is held at this place is given, and no longer held; or none is, and nothing changes
abbrev pub GivesAt : Option ℕ → List Held → Option Posting → List Held → Type 0
GivesAt None old given new = (given ≡ None) × (new ≡ old)
GivesAt (Some k) old given new = (h : Held) × (slice_index_or old k h ≡ h) × (given ≡ Some h.posting) × (new ≡ remove old k)

-- the first posting that is held for this byte is given, and no longer held; where there is none, nothing changes
abbrev pub GivesFirst : ℕ → List Held → Option Posting → List Held → Type 0
GivesFirst byte old given new = GivesAt (position (is_for byte) old) old given new
