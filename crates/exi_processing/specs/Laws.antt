-- The laws of sequential processing.
use Rattle.std.specs.Prelude.{◌≡◌, ◌≢◌, ◌⊎◌, ◌<◌, ◌≤◌, ℕ, length, ◌+◌, ◌*◌, false, List, [], ◌∷◌, ◌++◌, Option, Some, None, Ok, Err}
use Rattle.exi_bits.specs.declared.fault.Kind.TheVariants as kind
use Rattle.exi_meter.specs.Metering.{Bounds}
use Rattle.exi_meter.specs.declared.tally.Tally.{Tally}
use Rattle.exi_names.specs.Events.{Happening, ed}
use Rattle.exi_names.specs.declared.names.QName.{QName}
use Rattle.exi_typed.specs.ReadStates.{Failure}
use Rattle.exi_processing.specs.Configurations.{Config, Setting}
use Rattle.exi_processing.specs.Fragments.{fragments_at, fragments_in}
use Rattle.exi_processing.specs.OneEvent.{one}
use Rattle.exi_processing.specs.Plans.{Given}
use Rattle.exi_processing.specs.Runs.{IsRun, IsSequence, Job, Leads, events_of, failed_end, first, has_ended, whole_bytes}
use Rattle.exi_processing.specs.Splices.{tally_of}
use Rattle.exi_processing.specs.declared.end.End.{End}
use Rattle.exi_processing.specs.declared.end.End.TheVariants as end
use Rattle.exi_processing.specs.declared.start.Start.{Start}
use Rattle.exi_processing.specs.declared.start.Start.TheVariants as start

-- ---- one event
-- one step, no other, and no fault
pub record HasStep (g : Setting) (bytes : List ℕ) (c : Config) : Type 0 where
  pub given : Given
  pub steps : one g bytes c ≡ Ok given
  pub no_other : (other : Given) → one g bytes c ≡ Ok other → other ≡ given
  pub no_fault : (e : Failure) → one g bytes c ≢ Err e

-- one fault, no other, and no step
pub record HasFault (g : Setting) (bytes : List ℕ) (c : Config) : Type 0 where
  pub failure : Failure
  pub fails : one g bytes c ≡ Err failure
  pub no_other : (other : Failure) → one g bytes c ≡ Err other → other ≡ failure
  pub no_step : (given : Given) → one g bytes c ≢ Ok given

-- a configuration that has not ended has exactly one step or exactly one fault
abbrev pub OneStepOrOneFault : Type 0
OneStepOrOneFault = (g : Setting) (bytes : List ℕ) (c : Config) → has_ended c ≡ false → HasStep g bytes c ⊎ HasFault g bytes c

-- the place of a step is not before the one that it began at
abbrev pub NeverBack : Type 0
NeverBack = (g : Setting) (bytes : List ℕ) (c next : Config) (e : Option Happening) → one g bytes c ≡ Ok (e, next) → c.place ≤ next.place

-- ---- runs
-- a configuration has a run
abbrev pub ARunIsThere : Type 0
ARunIsThere = (g : Setting) (bytes : List ℕ) (c : Config) → (turns : List (Option Happening)) × (e : End) × IsRun g bytes c turns e

-- and no other
abbrev pub OneRun : Type 0
OneRun = (g : Setting) (bytes : List ℕ) (c : Config) (turns others : List (Option Happening)) (d e : End) → IsRun g bytes c turns d → IsRun g bytes c others e → (turns ≡ others) × (d ≡ e)

-- what was given so far is the front of what the run gives
abbrev pub IsFrontOfRun : Type 0
IsFrontOfRun = (g : Setting) (bytes : List ℕ) (c reached : Config) (turns others : List (Option Happening)) (e : End) → Leads g bytes c turns reached → IsRun g bytes c others e → (more : List (Option Happening)) × (others ≡ turns ++ more)

-- a fault ends the run: its events are those before the fault, and its end is the fault, with all charges before
abbrev pub AFaultEnds : Type 0
AFaultEnds = (g : Setting) (bytes : List ℕ) (c reached : Config) (turns others : List (Option Happening)) (failure : Failure) (e : End) → Leads g bytes c turns reached → one g bytes reached ≡ Err failure → IsRun g bytes c others e → (events_of others ≡ events_of turns) × (e ≡ failed_end reached failure)

-- ---- whole bodies and fragments
-- there is a list of events, an end and a number of turns
abbrev pub ASequenceIsThere : Type 0
ASequenceIsThere = (j : Job) (start : Start) (limits : Bounds) → (es : List Happening) × (e : End) × (count : ℕ) × IsSequence j start limits es e count

-- and no other
abbrev pub OneSequence : Type 0
OneSequence = (j : Job) (start : Start) (limits : Bounds) (es fs : List Happening) (d e : End) (m n : ℕ) → IsSequence j start limits es d m → IsSequence j start limits fs e n → (es ≡ fs) × (d ≡ e) × (m ≡ n)

-- a body takes at most one turn more than the limit of events, and three more for each fragment
abbrev pub FewTurns : Type 0
FewTurns = (j : Job) (start : Start) (limits : Bounds) (es : List Happening) (e : End) (count : ℕ) → IsSequence j start limits es e count → count ≤ limits.events + 1 + 3 * (fragments_at start + fragments_in es)

-- behind ED no whole byte is left, and the end is done at the place
pub record IsDone (bytes : List ℕ) (c : Config) (e : End) : Type 0 where
  pub none : length bytes ≤ whole_bytes c.place
  pub is : e ≡ end.Done c.place c.meter.used c.root

-- or one is, and it is at fault at its first bit
pub record IsTrailing (bytes : List ℕ) (c : Config) (e : End) : Type 0 where
  pub more : whole_bytes c.place < length bytes
  pub is : e ≡ end.Fault (record { kind = kind.TrailingBytes; bit = 8 * whole_bytes c.place }) c.meter.used c.root

-- The last event of a body is ED, behind which its end is done, or a whole byte more is at fault; or the end is a fault
pub record EndsBehind (j : Job) (reached : Config) (event : Option Happening) (e : End) : Type 0 where
  pub given : Given
  pub steps : one j.setting j.bytes reached ≡ Ok given
  pub last : event ≡ Some ed
  pub closed : IsDone j.bytes given.1 e ⊎ IsTrailing j.bytes given.1 e

pub record EndsIn (j : Job) (reached : Config) (event : Option Happening) (e : End) : Type 0 where
  pub failure : Failure
  pub fails : one j.setting j.bytes reached ≡ Err failure
  pub none : event ≡ None
  pub closed : e ≡ failed_end reached failure

abbrev pub EndIs : Type 0
EndIs = (j : Job) (limits : Bounds) (turns : List (Option Happening)) (e : End) → (r : IsRun j.setting j.bytes (first j start.Body limits) turns e) → EndsBehind j r.reached r.event e ⊎ EndsIn j r.reached r.event e

-- so reading of a body that does not fail ends with ED
abbrev pub EndsAtEd : Type 0
EndsAtEd = (j : Job) (limits : Bounds) (turns : List (Option Happening)) (bit : ℕ) (tally : Tally) (root : Option QName) → IsRun j.setting j.bytes (first j start.Body limits) turns (end.Done bit tally root) → (before : List (Option Happening)) × (turns ≡ before ++ Some ed ∷ [])

-- nothing that is charged passes its limit, wherever reading ends
pub record IsWithinLimits (limits : Bounds) (tally : Tally) : Type 0 where
  pub events : tally.events ≤ limits.events
  pub text : tally.text ≤ limits.text
  pub depth : tally.deepest ≤ limits.depth

abbrev pub LimitsAreKept : Type 0
LimitsAreKept = (j : Job) (start : Start) (limits : Bounds) (es : List Happening) (e : End) (count : ℕ) → IsSequence j start limits es e count → IsWithinLimits limits (tally_of e)
