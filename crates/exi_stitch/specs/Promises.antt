-- What a reading beside a desk or beside workers promises: of the events, of what the desk was asked, and of steps.
use Rattle.std.specs.Prelude.{◌≡◌, ◌≤◌, ℕ, ◌+◌, List, [], ◌∷◌, ◌++◌, length, Option, Result, Ok, Err}
use Rattle.exi_meter.specs.Metering.{Bounds}
use Rattle.exi_names.specs.Events.{Happening}
use Rattle.exi_processing.specs.Configurations.{Config}
use Rattle.exi_processing.specs.Reading.{IsFront}
use Rattle.exi_processing.specs.Runs.{IsSequence, Job, first}
use Rattle.exi_processing.specs.declared.end.End.{End}
use Rattle.exi_processing.specs.declared.start.Start.TheVariants as start
use Rattle.exi_processing.specs.declared.turn.ReadStop.{ReadStop}
use Rattle.exi_processing.specs.declared.turn.ReadStop.TheVariants as stop
use Rattle.exi_tape.specs.Lists.{events_of}
use Rattle.exi_worker.specs.declared.posting.Posting.{Posting as Posted}
use Rattle.exi_stitch.specs.Moves.{Posting}
use Rattle.exi_stitch.specs.Stitches.{Ask, Asked, AskedLast, IsStitched, Stage, Stitches, asks_in, used_in}
use Rattle.exi_stitch.specs.declared.report.Report.{Report}

-- what a posting stands for
abbrev pub posting_of : Posted → Posting
posting_of p = record { events = events_of p.tape; end = p.end }

abbrev pub Answer : Type 0
Answer = Result (End × Report) ReadStop

-- The events: exactly those of sequential processing were taken, and this is its end; or reading stopped, and what was taken is
-- a front of its events, behind which, where the events were taken no further, is the one that stopped them
abbrev pub TakesSequence : {T : Type 0} → (T → List Happening → T → Type 0) → (T → Happening → T → Type 0) → Answer → Job → Bounds → T → T → Type 0
TakesSequence took broke (Ok r) j limits before after = (es : List Happening) × (count : ℕ) × IsSequence j start.Body limits es r.0 count × took before es after
TakesSequence took broke (Err stop.Memory) j limits before after = (es : List Happening) × IsFront j start.Body limits es × took before es after
TakesSequence {T} took broke (Err stop.Stopped) j limits before after = (es : List Happening) × (e : Happening) × (mid : T) × IsFront j start.Body limits (es ++ e ∷ []) × took before es mid × broke mid e after

-- The desk and the steps of a whole reading: its stages end so, the desk was asked at each fragment of them, these are the bytes
-- at which a posting was used, and each stage is one step
pub record AsksAll {D : Type 0} (arrives : D → ℕ → Option Posted → D → Type 0) (returns : D → Posted → D → Type 0) (j : Job) (limits : Bounds) (end : End) (used : List ℕ) (before after : D) (from to : ℕ) : Type 0 where
  pub stages : List Stage
  pub stitched : IsStitched j (first j start.Body limits) stages end
  pub asked : Asked posting_of arrives returns before (asks_in stages) after
  pub uses : used ≡ used_in stages
  pub steps : to ≡ from + length stages

-- And of one that stopped: the desk was asked at each fragment to which its stages lead, and at most at one more, at which
-- reading stopped
pub record AsksSome {D : Type 0} (arrives : D → ℕ → Option Posted → D → Type 0) (returns : D → Posted → D → Type 0) (j : Job) (limits : Bounds) (before after : D) (from to : ℕ) : Type 0 where
  pub stages : List Stage
  pub reached : Config
  pub stitches : Stitches j (first j start.Body limits) stages reached
  pub last : List Ask
  pub one_more : AskedLast j reached last
  pub asked : Asked posting_of arrives returns before (asks_in stages ++ last) after
  pub steps : to ≤ from + (length stages + 1)

abbrev pub Asks : {D : Type 0} → (D → ℕ → Option Posted → D → Type 0) → (D → Posted → D → Type 0) → Answer → Job → Bounds → D → D → ℕ → ℕ → Type 0
Asks arrives returns (Ok r) j limits before after from to = AsksAll arrives returns j limits r.0 r.1.used.items before after from to
Asks arrives returns (Err e) j limits before after from to = AsksSome arrives returns j limits before after from to

-- an answer, where the report is known apart
abbrev pub reported : Result End ReadStop → Report → Answer
reported (Ok end) report = Ok (end, report)
reported (Err e) report = Err e
