-- What the calls of a reader promise, in the words of sequential processing.
use Rattle.std.specs.Prelude.{◌≡◌, ◌⊎◌, ◌≤◌, ◌^◌, ◌*◌, ◌+◌, ℕ, Bool, true, false, List, [], ◌∷◌, ◌++◌, length, Option, Some, Result, Ok, Err}
use Rattle.exi_bits.specs.Bits.{IsAligned, IsBytes}
use Rattle.exi_gram.specs.Switches.{align_of}
use Rattle.exi_meter.specs.Metering.{Bounds, IsWithinStream}
use Rattle.exi_names.specs.Events.{Happening}
use Rattle.exi_names.specs.Events as event
use Rattle.exi_names.specs.StartTables.{IsStart}
use Rattle.exi_processing.specs.Configurations.{Config, IsSetting, Setting, first_config}
use Rattle.exi_processing.specs.Fragments.{fragments_in}
use Rattle.exi_processing.specs.Handing.{listed}
use Rattle.exi_processing.specs.Runs.{Job, IsSequence, Leads, Turn, closing, ends, goes, turn}
use Rattle.exi_processing.specs.declared.end.End.{End}
use Rattle.exi_processing.specs.declared.end.End.TheVariants as ending
use Rattle.exi_processing.specs.Splices.{AtFragment, ended, on, spliced, wrong_root}
use Rattle.exi_processing.specs.declared.job.Job.{Job as Told}
use Rattle.exi_processing.specs.declared.spliced.Spliced.{Spliced as Joined}
use Rattle.exi_processing.specs.declared.spliced.Spliced.TheVariants as joined
use Rattle.exi_processing.specs.declared.start.Start.{Start}
use Rattle.exi_processing.specs.declared.start.Start.TheVariants as start
use Rattle.exi_processing.specs.declared.turn.Came.{Came}
use Rattle.exi_processing.specs.declared.turn.Came.TheVariants as came
use Rattle.exi_processing.specs.declared.turn.ReadStop.{ReadStop}
use Rattle.exi_processing.specs.declared.turn.ReadStop.TheVariants as stop
use Rattle.exi_processing.specs.declared.turn.Turn.{Turn as Made}
use Rattle.exi_processing.specs.declared.turn.Turn.TheVariants as told

-- ---- a job
-- what a `Job` stands for
abbrev pub job_of : Told → Job
job_of j = record { setting = j.book.now; bytes = j.bytes.now; body = j.body }

-- the input is not long, and the body begins in it; in a byte-aligned stream at a whole byte
pub record IsJob (j : Job) : Type 0 where
  pub few : length j.bytes ≤ 2 ^ 26
  pub within : j.body ≤ 8 * length j.bytes
  pub aligned : IsAligned (align_of j.setting.options) (record { bytes = j.bytes; place = j.body })

-- reading begins in the input
abbrev pub IsStartIn : Job → Start → Type 0
IsStartIn j start.Body = Unit {0}
IsStartIn j (start.Fragment byte) = byte ≤ length j.bytes

-- ---- a reader
-- what a reader stands for: what is read by, what is read, how far, and whether the fragment at which it stands is to be
-- entered or spliced
pub record Reading : Type 0 where
  pub setting : Setting
  pub bytes : List ℕ
  pub config : Config
  pub waits : Bool

abbrev pub reading : Job → Config → Bool → Reading
reading j c waits = record { setting = j.setting; bytes = j.bytes; config = c; waits = waits }

-- turns lead from the first configuration of a job to where the reader is; where it waits, it stands at a fragment
pub record IsReached (r : Reading) : Type 0 where
  pub body : ℕ
  pub start : Start
  pub limits : Bounds
  pub within : IsWithinStream limits
  pub book : IsSetting r.setting
  pub names : IsStart r.setting.schema.names
  pub octets : IsBytes r.bytes
  pub turns : List (Option Happening)
  pub leads : Leads r.setting r.bytes (first_config r.setting body start limits) turns r.config
  pub fragment : r.waits ≡ true → (byte : ℕ) × AtFragment r.setting byte r.config

-- ---- a turn
abbrev pub event_of : Turn → Option Happening
event_of (goes e next) = e
event_of (ends e end) = e

-- The turn of the definition was made, and its event handed on, if there is one: where reading just goes on, it begins no
-- fragment; or memory was refused, before or behind the event; or the event stopped what takes the events
abbrev pub Turns : {T : Type 0} → (T → List Happening → T → Type 0) → (T → Happening → T → Type 0) → Result Made ReadStop → Reading → Reading → T → T → Type 0
Turns took broke (Ok told.Went) old new before after = (e : Option Happening) × (turn old.setting old.bytes old.config ≡ goes e new.config) × (new.waits ≡ false) × took before (listed e) after × (fragments_in (listed e) ≡ 0)
Turns took broke (Ok (told.AtFragment byte)) old new before after = (turn old.setting old.bytes old.config ≡ goes (Some (event.sc byte)) new.config) × (new.waits ≡ true) × took before (event.sc byte ∷ []) after
Turns took broke (Ok (told.Ended end)) old new before after = (e : Option Happening) × (turn old.setting old.bytes old.config ≡ ends e end) × took before (listed e) after
Turns took broke (Err stop.Memory) old new before after = took before [] after ⊎ ((e : Happening) × (event_of (turn old.setting old.bytes old.config) ≡ Some e) × took before (e ∷ []) after)
Turns took broke (Err stop.Stopped) old new before after = (e : Happening) × (event_of (turn old.setting old.bytes old.config) ≡ Some e) × broke before e after

-- where reading goes on, turns lead there too
abbrev pub StaysReached : Result Made ReadStop → Reading → Type 0
StaysReached (Ok told.Went) r = IsReached r
StaysReached (Ok (told.AtFragment byte)) r = IsReached r
StaysReached (Ok (told.Ended end)) r = Unit {0}
StaysReached (Err e) r = Unit {0}

-- where a fragment begins, it begins at this byte
abbrev pub StandsAt : Result Made ReadStop → Reading → Type 0
StandsAt (Ok told.Went) r = Unit {0}
StandsAt (Ok (told.AtFragment byte)) r = r.config.place ≡ 8 * byte
StandsAt (Ok (told.Ended end)) r = Unit {0}
StandsAt (Err e) r = Unit {0}

-- and that byte is in the input, or at its end
abbrev pub LiesWithin : Result Made ReadStop → Reading → Type 0
LiesWithin (Ok told.Went) r = Unit {0}
LiesWithin (Ok (told.AtFragment byte)) r = byte ≤ length r.bytes
LiesWithin (Ok (told.Ended end)) r = Unit {0}
LiesWithin (Err e) r = Unit {0}

-- ---- a turn whose end is still to be told: what it stands for
abbrev pub made_of : Came → Reading → Made
made_of came.On r = told.Went
made_of (came.AtFragment byte) r = told.AtFragment byte
made_of came.Over r = told.Ended (closing r.config.start r.bytes r.config)
made_of (came.Failed fault) r = told.Ended (ending.Fault fault r.config.meter.used r.config.root)

abbrev pub come_to : Result Came ReadStop → Reading → Result Made ReadStop
come_to (Ok c) r = Ok (made_of c r)
come_to (Err e) r = Err e

-- a turn that ends stands at no fragment
abbrev pub StandsAtNone : Result Came ReadStop → Reading → Type 0
StandsAtNone (Ok came.On) r = Unit {0}
StandsAtNone (Ok (came.AtFragment byte)) r = Unit {0}
StandsAtNone (Ok came.Over) r = r.waits ≡ false
StandsAtNone (Ok (came.Failed fault)) r = r.waits ≡ false
StandsAtNone (Err e) r = Unit {0}

-- ---- a splice
-- what came of the fragment at which a reader stands, where that was read by itself, under any limits
pub record IsOutcome (r : Reading) (e : End) : Type 0 where
  pub byte : ℕ
  pub stands : r.config.place ≡ 8 * byte
  pub body : ℕ
  pub limits : Bounds
  pub events : List Happening
  pub count : ℕ
  pub sequence : IsSequence (record { setting = r.setting; bytes = r.bytes; body = body }) (start.Fragment byte) limits events e count

-- the reader stands behind the fragment; or it has ended as the fragment did, or by the root of another element
abbrev pub SplicedAs : Joined → Reading → Reading → End → Type 0
SplicedAs joined.On old new e = (spliced old.config e ≡ on new.config) × (new.waits ≡ false)
SplicedAs (joined.Ended end) old new e = spliced old.config e ≡ ended end
SplicedAs (joined.WrongRoot end) old new e = spliced old.config e ≡ wrong_root end

-- and where it goes on, turns lead there
abbrev pub GoesOnReached : Joined → Reading → Type 0
GoesOnReached joined.On r = IsReached r
GoesOnReached (joined.Ended end) r = Unit {0}
GoesOnReached (joined.WrongRoot end) r = Unit {0}

-- ---- all of it
-- a front of the events of sequential processing, some, all or none
pub record IsFront (j : Job) (start : Start) (limits : Bounds) (es : List Happening) : Type 0 where
  pub events : List Happening
  pub end : End
  pub count : ℕ
  pub sequence : IsSequence j start limits events end count
  pub rest : List Happening
  pub parts : events ≡ es ++ rest

-- Sequential processing: exactly its events were taken, this is its end, and so many steps were counted; or reading stopped, and
-- what was taken is a front of its events, behind which, where the events were taken no further, is the one that stopped them
abbrev pub Sequences : {T : Type 0} → (T → List Happening → T → Type 0) → (T → Happening → T → Type 0) → Result End ReadStop → Job → Start → Bounds → T → T → ℕ → ℕ → Type 0
Sequences took broke (Ok end) j start limits before after old new = (es : List Happening) × (count : ℕ) × IsSequence j start limits es end count × took before es after × (new ≡ old + count)
Sequences took broke (Err stop.Memory) j start limits before after old new = (es : List Happening) × IsFront j start limits es × took before es after
Sequences {T} took broke (Err stop.Stopped) j start limits before after old new = (es : List Happening) × (e : Happening) × (mid : T) × IsFront j start limits (es ++ e ∷ []) × took before es mid × broke mid e after
