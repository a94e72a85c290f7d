-- Whether a list of events can be written, and for which of its events no production stands first: that is a matter of the
-- list, the options and the schema alone, whatever limits there are and whatever bits stand in front (EXI 1.0, sections 6,
-- 8.4 and 8.5).
-- Limits are the codec's own.
use Rattle.std.specs.Prelude.{◌≡◌, ◌+◌, ◌<◌, ◌≤◌, ◌⊎◌, ◌↔◌, ℕ, Bool, true, false, List, ◌++◌, length, Result, Ok, Err}
use Rattle.exi_meter.specs.Metering.{Bounds}
use Rattle.exi_names.specs.Events.{Happening}
use Rattle.exi_processing.specs.Configurations.{Setting}
use Rattle.exi_writing.specs.OneEvent.{Refused, limit, not_derived}
use Rattle.exi_writing.specs.Runs.{Derives, Refusal, Run, body}

-- limits none of which is above the other's
pub record IsNoWider (limits wider : Bounds) : Type 0 where
  pub events : limits.events ≤ wider.events
  pub text : limits.text ≤ wider.text
  pub depth : limits.depth ≤ wider.depth

-- no production stands for the event of this number, or for what a self-contained fragment has of its own behind it
abbrev pub unmatched_at : ℕ → Refusal
unmatched_at event = record { event = event; why = not_derived }

-- The event of this number, counted from 1, is the first of the list for which no production stands; or the list ends in
-- front of it, too early. Under some limits the list is refused there
abbrev pub Unmatched : Setting → List Happening → ℕ → Type 0
Unmatched g es event = (limits : Bounds) × (body g 0 limits es ≡ Err (unmatched_at event))

-- for each event of the list a production stands in turn: it can be written, or ends too early and has no other fault
abbrev pub IsMatched : Setting → List Happening → Type 0
IsMatched g es = Derives g es ⊎ Unmatched g es (length es + 1)

-- whether a list was written, and whether a limit is passed
abbrev pub is_written : Result Run Refusal → Bool
is_written (Ok r) = true
is_written (Err e) = false

abbrev pub is_limit : Refused → Bool
is_limit not_derived = false
is_limit (limit kind meter) = true

abbrev pub passes_limit : Result Run Refusal → Bool
passes_limit (Ok r) = false
passes_limit (Err e) = is_limit e.why

-- this event is refused for want of a production, or one no later by a limit
abbrev pub RefusesAt : ℕ → ℕ → Refused → Type 0
RefusesAt event at not_derived = at ≡ event
RefusesAt event at (limit kind meter) = at ≤ event

abbrev pub IsRefused : ℕ → Result Run Refusal → Type 0
IsRefused event (Ok r) = ⊥
IsRefused event (Err e) = RefusesAt event e.event e.why

-- a list is written, or refused for want of a production at this event or behind it
abbrev pub RefusesFrom : ℕ → ℕ → Refused → Type 0
RefusesFrom event at not_derived = event ≤ at
RefusesFrom event at (limit kind meter) = ⊥

abbrev pub GoesOn : ℕ → Result Run Refusal → Type 0
GoesOn event (Ok r) = Unit {0}
GoesOn event (Err e) = RefusesFrom event e.event e.why

-- ---- the laws, each of a body behind so many bits
-- what is written can be written
abbrev pub WrittenDerives : Type 0
WrittenDerives = (g : Setting) (bits : ℕ) (limits : Bounds) (es : List Happening) (r : Run) → body g bits limits es ≡ Ok r → Derives g es

-- where no production stands for an event the list can not be written
abbrev pub RefusedDerivesNot : Type 0
RefusedDerivesNot = (g : Setting) (bits : ℕ) (limits : Bounds) (es : List Happening) (event : ℕ) → body g bits limits es ≡ Err (unmatched_at event) → Derives g es → ⊥

-- and that event is the first
abbrev pub RefusedIsUnmatched : Type 0
RefusedIsUnmatched = (g : Setting) (bits : ℕ) (limits : Bounds) (es : List Happening) (event : ℕ) → body g bits limits es ≡ Err (unmatched_at event) → Unmatched g es event

-- where there is such an event the list is never written: it is refused there, or by a limit no later
abbrev pub UnmatchedIsRefused : Type 0
UnmatchedIsRefused = (g : Setting) (bits : ℕ) (limits : Bounds) (es : List Happening) (event : ℕ) → Unmatched g es event → IsRefused event (body g bits limits es)

-- what can be written is written, or a limit is passed
abbrev pub DerivedIsWritten : Type 0
DerivedIsWritten = (g : Setting) (bits : ℕ) (limits : Bounds) (es : List Happening) → Derives g es → (is_written (body g bits limits es) ≡ true) ⊎ (passes_limit (body g bits limits es) ≡ true)

-- so a list is written exactly where it can be and no limit is passed
abbrev pub WrittenExactly : Type 0
WrittenExactly = (g : Setting) (bits : ℕ) (limits : Bounds) (es : List Happening) → (is_written (body g bits limits es) ≡ true) ↔ (Derives g es × (passes_limit (body g bits limits es) ≡ false))

-- each list can be written, or has such an event; never both, and one such event at most
abbrev pub DerivedOrUnmatched : Type 0
DerivedOrUnmatched = (g : Setting) (es : List Happening) → Derives g es ⊎ ((event : ℕ) × Unmatched g es event)

abbrev pub NeverBoth : Type 0
NeverBoth = (g : Setting) (es : List Happening) (event : ℕ) → Derives g es → Unmatched g es event → ⊥

abbrev pub OneUnmatched : Type 0
OneUnmatched = (g : Setting) (es : List Happening) (event other : ℕ) → Unmatched g es event → Unmatched g es other → event ≡ other

-- ---- which event it is
-- an event of the list; or the number behind its last, where no limit is passed
pub record IsNumbered (es : List Happening) (e : Refusal) : Type 0 where
  pub first : 1 ≤ e.event
  pub last : e.event ≤ length es + 1
  pub limited : is_limit e.why ≡ true → e.event ≤ length es

abbrev pub RefusedIsNumbered : Type 0
RefusedIsNumbered = (g : Setting) (bits : ℕ) (limits : Bounds) (es : List Happening) (e : Refusal) → body g bits limits es ≡ Err e → IsNumbered es e

-- for the events before one that is refused, for whatever reason, productions stand
abbrev pub FrontIsMatched : Type 0
FrontIsMatched = (g : Setting) (bits : ℕ) (limits : Bounds) (front rest : List Happening) (e : Refusal) → body g bits limits (front ++ rest) ≡ Err e → length front < e.event → IsMatched g front

-- it is refused whatever follows it
abbrev pub RefusedWhateverFollows : Type 0
RefusedWhateverFollows = (g : Setting) (bits : ℕ) (limits : Bounds) (front rest others : List Happening) (e : Refusal) → body g bits limits (front ++ rest) ≡ Err e → e.event ≤ length front → body g bits limits (front ++ others) ≡ Err e

-- ---- behind other bits
-- within the same limits they change nothing of it: a list is written behind all of them, or refused behind all for the same
abbrev pub BitsWriteAgain : Type 0
BitsWriteAgain = (g : Setting) (bits others : ℕ) (limits : Bounds) (es : List Happening) (r : Run) → body g bits limits es ≡ Ok r → (s : Run) × (body g others limits es ≡ Ok s)

abbrev pub BitsRefuseTheSame : Type 0
BitsRefuseTheSame = (g : Setting) (bits others : ℕ) (limits : Bounds) (es : List Happening) (e : Refusal) → body g bits limits es ≡ Err e → body g others limits es ≡ Err e

-- ---- under wider limits
-- where a limit is passed there are wider ones under which none is: by them the list is written, or the first event without
-- a production comes no earlier
abbrev pub LimitedGoesOn : Type 0
LimitedGoesOn = (g : Setting) (bits : ℕ) (limits : Bounds) (es : List Happening) (e : Refusal) → body g bits limits es ≡ Err e → is_limit e.why ≡ true → (wider : Bounds) × IsNoWider limits wider × GoesOn e.event (body g bits wider es)

-- the same bits are written, and read as the same events
pub record IsSameRun (r s : Run) : Type 0 where
  pub bits : s.bits ≡ r.bits
  pub events : s.events ≡ r.events

abbrev pub WiderWritesTheSame : Type 0
WiderWritesTheSame = (g : Setting) (bits : ℕ) (limits wider : Bounds) (es : List Happening) (r : Run) → IsNoWider limits wider → body g bits limits es ≡ Ok r → (s : Run) × (body g bits wider es ≡ Ok s) × IsSameRun r s
