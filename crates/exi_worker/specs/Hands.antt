-- What became of the hints that a thread claimed, and of the pages that it had, over its seat of a board and its pass of a pool.
use Rattle.std.specs.Prelude.{◌≡◌, ℕ, ◌+◌, ◌≤◌, length, Result, Ok, Err}
use Rattle.exi_board.specs.declared.view.ArrivalRecord.{ArrivalRecord}
use Rattle.exi_board.specs.declared.view.PostRecord.{PostRecord}
use Rattle.exi_board.specs.declared.view.SeatView.{SeatView}
use Rattle.exi_board.specs.Views.{IsSettled, with_given_up, with_late, with_posted}
use Rattle.exi_pool.specs.Passes.{dry_of, view_of}
use Rattle.exi_pool.specs.Views.{SameStart, gives, takes, total}
use Rattle.exi_pool.specs.declared.pass.PoolPass.{PoolPass}
use Rattle.exi_tape.specs.Lists.{pages_of}
use Rattle.exi_tape.specs.Rolls.{times}
use Rattle.exi_tape.specs.declared.tape.Tape.{Tape}
use Rattle.exi_worker.specs.declared.fate.Fate.{Fate}
use Rattle.exi_worker.specs.declared.fate.Fate.TheVariants as fate
use Rattle.exi_worker.specs.declared.fate.Loss.{Loss}
use Rattle.exi_worker.specs.declared.fate.Loss.TheVariants as loss
use Rattle.exi_worker.specs.declared.posting.Posting.{Posting}
use Rattle.exi_worker.specs.declared.worked.Worked.{Worked}
use Rattle.exi_worker.specs.Outcomes.{pages_in}

-- how often the page n stands beside the hints that a seat posted, and beside those that it arrived at
abbrev pub sent : {N : Type 0} → ℕ → SeatView N → ℕ
sent n v = total (λ (r : PostRecord). times n r.pages) v.posted

abbrev pub received : {N : Type 0} → ℕ → SeatView N → ℕ
received n v = total (λ (r : ArrivalRecord). times n r.pages) v.arrivals

-- each page that was taken, or received with a posting, was given back or sent with a posting: no page stays
abbrev pub KeepsNone : {N : Type 0} → SeatView N → PoolPass → SeatView N → PoolPass → Type 0
KeepsNone v p w q = (n : ℕ) → takes n (view_of q) + received n w + gives n (view_of p) + sent n v ≡ takes n (view_of p) + received n v + gives n (view_of q) + sent n w

-- nothing but takes and gives lies between what a pass knew and what it knows
abbrev pub OnlyMoves : PoolPass → PoolPass → Type 0
OnlyMoves p q = SameStart (view_of p) (view_of q)

-- how many hints were given up
abbrev pub given_up_in : Worked → ℕ
given_up_in k = k.full + k.memory + k.outside

-- how many hints were settled
abbrev pub settled_in : Worked → ℕ
settled_in k = k.posted + k.late + given_up_in k

-- one more of this fate
abbrev pub counted : Fate → Worked → Worked
counted fate.Posted k = record k { posted = k.posted + 1 }
counted fate.Late k = record k { late = k.late + 1 }
counted (fate.GivenUp loss.Full) k = record k { full = k.full + 1 }
counted (fate.GivenUp loss.Memory) k = record k { memory = k.memory + 1 }
counted (fate.GivenUp loss.Outside) k = record k { outside = k.outside + 1 }

-- what a seat and a pass did while these hints were claimed and settled
pub record Works {N : Type 0} (v : SeatView N) (p : PoolPass) (w : SeatView N) (q : PoolPass) (k : Worked) : Type 0 where
  pub settled : IsSettled v → IsSettled w
  pub posted : length w.posted ≡ length v.posted + k.posted
  pub late : length w.late ≡ length v.late + k.late
  pub given_up : length w.given_up ≡ length v.given_up + given_up_in k
  pub full : k.full + dry_of p ≤ dry_of q
  pub pages : KeepsNone v p w q
  pub moves : OnlyMoves p q
  pub arrivals : w.arrivals ≡ v.arrivals

-- ---- one hint
-- the tape has exactly the pages that the pass took since; the pass gave none
pub record HasTaken (old : PoolPass) (t : Tape) (new : PoolPass) : Type 0 where
  pub pages : (n : ℕ) → times n (pages_of t) + takes n (view_of old) ≡ takes n (view_of new)
  pub gives : (view_of new).gives ≡ (view_of old).gives
  pub moves : OnlyMoves old new
  pub later : dry_of old ≤ dry_of new

-- how often the page n is in hand: with the posting, if there is one
abbrev pub in_hand : ℕ → Result Posting Loss → ℕ
in_hand n (Ok p) = times n (pages_in p)
in_hand n (Err l) = 0

-- the pages that were taken and not given back are those in hand
pub record HasInHand (old : PoolPass) (read : Result Posting Loss) (new : PoolPass) : Type 0 where
  pub pages : (n : ℕ) → in_hand n read + takes n (view_of old) + gives n (view_of new) ≡ takes n (view_of new) + gives n (view_of old)
  pub moves : OnlyMoves old new

-- where a page was missing, the count of that rose
abbrev pub WasDry : Result Posting Loss → PoolPass → PoolPass → Type 0
WasDry (Ok p) old new = dry_of old ≤ dry_of new
WasDry (Err loss.Full) old new = dry_of old + 1 ≤ dry_of new
WasDry (Err loss.Memory) old new = dry_of old ≤ dry_of new
WasDry (Err loss.Outside) old new = dry_of old ≤ dry_of new

-- what was read was posted, in time or late; or the hint was given up
abbrev pub SettledAs : {N : Type 0} → Result Posting Loss → Fate → ℕ → SeatView N → SeatView N → Type 0
SettledAs (Ok p) fate.Posted h v w = w ≡ with_posted h (pages_in p) v
SettledAs (Ok p) fate.Late h v w = w ≡ with_late h v
SettledAs (Ok p) (fate.GivenUp l) h v w = ⊥
SettledAs (Err l) f h v w = (f ≡ fate.GivenUp l) × (w ≡ with_given_up h v)

-- the pages in hand were sent or given back; the pass took none
pub record Settles {N : Type 0} (read : Result Posting Loss) (v : SeatView N) (old : PoolPass) (w : SeatView N) (new : PoolPass) : Type 0 where
  pub pages : (n : ℕ) → in_hand n read + gives n (view_of old) + sent n v ≡ gives n (view_of new) + sent n w
  pub received : (n : ℕ) → received n w ≡ received n v
  pub takes : (view_of new).takes ≡ (view_of old).takes
  pub moves : OnlyMoves old new
