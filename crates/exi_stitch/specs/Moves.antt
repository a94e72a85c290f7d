-- The moves of workers and of a reader beside them, in any order: claims, postings and arrivals at the hints of a board, and
-- the reader's turns (EXI 1.0, section 8.4.3).
use Rattle.std.specs.Prelude.{◌≡◌, ℕ, zero, suc, ◌+◌, ◌==◌, Bool, true, false, List, [], ◌∷◌, ◌++◌, Option, Some, None, slice_get, slice_index_or, if◌then◌else◌}
use Rattle.exi_bits.specs.Bits.{IsBytes}
use Rattle.exi_meter.specs.Metering.{Bounds}
use Rattle.exi_names.specs.Events.{Happening, at, ch, cm, dt, ed, ee, er, ns, pi, sc, sd, se}
use Rattle.exi_names.specs.StartTables.{IsStart}
use Rattle.exi_processing.specs.Configurations.{Config, IsSetting}
use Rattle.exi_processing.specs.Handing.{listed}
use Rattle.exi_processing.specs.Reading.{IsFront}
use Rattle.exi_processing.specs.Runs.{IsSequence, Job, Leads, Turn, ends, events_of, first, goes, turn}
use Rattle.exi_processing.specs.Splices.{IsFragmentOutcome, Spliced, ended, fits, on, spliced, wrong_root}
use Rattle.exi_processing.specs.declared.end.End.{End}
use Rattle.exi_processing.specs.declared.start.Start.{Start}

-- ---- what there is
-- what came of a fragment: its events and its end
pub record Posting : Type 0 where
  pub events : List Happening
  pub end : End

-- where the reader is: between two events; at a self-contained fragment that begins at this byte; or it has ended
pub data Place : Type 0 where
  reading : Config → Place
  waiting : ℕ → Config → Place
  over : End → Place

-- of each hint its word and its posting, if there is one, in the order of the hints; the reader, and the events that it gave. A
-- word is 0 where the hint is free, 1 where it is posted, 2 where it is spent, and 3 + s where seat s claimed it. Seat 0 is the
-- reader's
pub record Board : Type 0 where
  pub words : List ℕ
  pub postings : List (Option Posting)
  pub reader : Place
  pub events : List Happening

-- ---- moves, of a seat at a hint, and the reader's turn
pub data Move : Type 0 where
  claim : ℕ → ℕ → Move
  post : ℕ → ℕ → Move
  drop : ℕ → ℕ → Move
  arrive : ℕ → ℕ → Move
  next_turn : Move

-- an item in place of another
abbrev pub changed : {X : Type 0} → ℕ → X → List X → List X
changed h x [] = []
changed zero x (y ∷ ys) = x ∷ ys
changed (suc h) x (y ∷ ys) = y ∷ changed h x ys

-- the word of a hint; where there is no such hint it is as one that is spent
abbrev pub word : Board → ℕ → ℕ
word b h = slice_index_or b.words h 2

abbrev pub with_word : ℕ → ℕ → Board → Board
with_word h n b = record b { words = changed h n b.words }

-- a free hint is claimed
abbrev pub claimed : ℕ → ℕ → Board → Board
claimed s h b = if word b h == 0 then with_word h (3 + s) b else b

-- a hint that the seat claimed is posted; at any other word the posting is lost
abbrev pub posted : ℕ → ℕ → Posting → Board → Board
posted s h p b = if word b h == 3 + s then record (with_word h 1 b) { postings = changed h (Some p) b.postings } else b

-- a hint that the seat claimed is spent
abbrev pub dropped : ℕ → ℕ → Board → Board
dropped s h b = if word b h == 3 + s then with_word h 2 b else b

-- the byte of a fragment that an event begins
abbrev pub byte_of : Happening → Option ℕ
byte_of (sc byte) = Some byte
byte_of sd = None
byte_of ed = None
byte_of (se name) = None
byte_of ee = None
byte_of (at name found) = None
byte_of (ch found) = None
byte_of (ns uri prefix element) = None
byte_of (cm text) = None
byte_of (pi target text) = None
byte_of (dt name public system text) = None
byte_of (er name) = None

abbrev pub byte_in : Option Happening → Option ℕ
byte_in None = None
byte_in (Some e) = byte_of e

abbrev pub stands : Option ℕ → Config → Place
stands None c = reading c
stands (Some byte) c = waiting byte c

abbrev pub after_turn : Turn → Board → Board
after_turn (goes e next) b = record b { reader = stands (byte_in e) next; events = b.events ++ listed e }
after_turn (ends e end) b = record b { reader = over end; events = b.events ++ listed e }

-- the reader makes one turn; after its end it makes none
abbrev pub turned_at : Job → Place → Board → Board
turned_at j (reading c) b = after_turn (turn j.setting j.bytes c) b
turned_at j (waiting byte c) b = after_turn (turn j.setting j.bytes c) b
turned_at j (over end) b = b

-- a posting is taken: its events too, but where it is that of another element
abbrev pub taken : List Happening → Spliced → Board → Board
taken es (on next) b = record b { reader = reading next; events = b.events ++ es }
taken es (ended end) b = record b { reader = over end; events = b.events ++ es }
taken es (wrong_root end) b = record b { reader = over end }

abbrev pub taken_where : Bool → Config → Posting → Board → Board
taken_where true c p b = taken p.events (spliced c p.end) b
taken_where false c p b = b

-- where the word found is 1, a posting that fits is taken; else the reader goes on by itself
abbrev pub by_posting : Config → Option (Option Posting) → Board → Board
by_posting c None b = b
by_posting c (Some None) b = b
by_posting c (Some (Some p)) b = taken_where (fits c p.end) c p b

abbrev pub by_word : Bool → ℕ → Config → Board → Board
by_word true h c b = by_posting c (slice_get b.postings h) b
by_word false h c b = b

-- the reader arrives at a hint: it stands at that byte; the hint is spent
abbrev pub arrived_at : Place → ℕ → ℕ → Board → Board
arrived_at (reading c) byte h b = b
arrived_at (over end) byte h b = b
arrived_at (waiting stood c) byte h b = if stood == byte then by_word (word b h == 1) h c (with_word h 2 b) else b

-- a seat arrives at a hint. A worker's own turns are no moves, since nobody sees them
abbrev pub arrived : ℕ → ℕ → ℕ → Board → Board
arrived zero byte h b = arrived_at b.reader byte h b
arrived (suc s) byte h b = with_word h 2 b

-- a move leads from one board to another, with workers that decode under limits of their own
abbrev pub Moves : Job → Bounds → List ℕ → Move → Board → Board → Type 0
Moves j limits offsets (claim s h) old new = new ≡ claimed s h old
Moves j limits offsets (post s h) old new = (byte : ℕ) × (p : Posting) × (slice_get offsets h ≡ Some byte) × IsFragmentOutcome j byte limits p.events p.end × (new ≡ posted s h p old)
Moves j limits offsets (drop s h) old new = new ≡ dropped s h old
Moves j limits offsets (arrive s h) old new = (byte : ℕ) × (slice_get offsets h ≡ Some byte) × (new ≡ arrived s byte h old)
Moves j limits offsets next_turn old new = new ≡ turned_at j old.reader old

abbrev pub Led : Job → Bounds → List ℕ → List Move → Board → Board → Type 0
Led j limits offsets [] old new = old ≡ new
Led j limits offsets (m ∷ ms) old new = (mid : Board) × Moves j limits offsets m old mid × Led j limits offsets ms mid new

-- ---- the first board: each hint is free and nothing is posted
abbrev pub each : {X : Type 0} → X → List ℕ → List X
each x [] = []
each x (o ∷ os) = x ∷ each x os

abbrev pub first_board : Job → Start → Bounds → List ℕ → Board
first_board j start limits offsets = record { words = each 0 offsets; postings = each None offsets; reader = reading (first j start limits); events = [] }

-- ---- the law
-- turns of sequential processing lead to this configuration, with these events, which are a front of all of them
pub record IsOnTheWay (j : Job) (start : Start) (limits : Bounds) (c : Config) (es : List Happening) : Type 0 where
  pub turns : List (Option Happening)
  pub leads : Leads j.setting j.bytes (first j start limits) turns c
  pub gave : es ≡ events_of turns
  pub front : IsFront j start limits es

-- the reader is on the way; or it has ended, and its events and end are those of sequential processing
abbrev pub IsSequential : Job → Start → Bounds → Place → List Happening → Type 0
IsSequential j start limits (reading c) es = IsOnTheWay j start limits c es
IsSequential j start limits (waiting byte c) es = IsOnTheWay j start limits c es
IsSequential j start limits (over end) es = (count : ℕ) × IsSequence j start limits es end count

abbrev pub ReaderIsSequential : Type 0
ReaderIsSequential = (j : Job) (start : Start) (limits ahead : Bounds) (offsets : List ℕ) (moves : List Move) (b : Board) → IsBytes j.bytes → IsSetting j.setting → IsStart j.setting.schema.names → Led j ahead offsets moves (first_board j start limits offsets) b → IsSequential j start limits b.reader b.events
