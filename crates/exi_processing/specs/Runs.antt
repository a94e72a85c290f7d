-- Sequential processing: one event after another to the end (EXI 1.0, section 6).
use Rattle.std.specs.Prelude.{◌≡◌, ℕ, ◌+◌, ◌*◌, ◌/◌, nat_lt, Bool, true, false, List, [], ◌∷◌, ◌++◌, length, Option, Some, None, Result, Ok, Err, if◌then◌else◌}
use Rattle.exi_bits.specs.declared.fault.Kind.TheVariants as kind
use Rattle.exi_meter.specs.Metering.{Bounds}
use Rattle.exi_names.specs.Events.{Happening}
use Rattle.exi_typed.specs.ReadStates.{Failure}
use Rattle.exi_processing.specs.Configurations.{Config, Setting, first_config}
use Rattle.exi_processing.specs.OneEvent.{one}
use Rattle.exi_processing.specs.Plans.{Given}
use Rattle.exi_processing.specs.declared.end.End.{End}
use Rattle.exi_processing.specs.declared.end.End.TheVariants as end
use Rattle.exi_processing.specs.declared.frames.Outer.{Outer}
use Rattle.exi_processing.specs.declared.frames.Outer.TheVariants as outer
use Rattle.exi_processing.specs.declared.start.Start.{Start}
use Rattle.exi_processing.specs.declared.start.Start.TheVariants as start

-- what is read: by a book, bytes, and the bit at which the body begins
pub record Job : Type 0 where
  pub setting : Setting
  pub bytes : List ℕ
  pub body : ℕ

abbrev pub first : Job → Start → Bounds → Config
first j start limits = first_config j.setting j.body start limits

-- ---- the end
abbrev pub done : Config → End
done c = end.Done c.place c.meter.used c.root

abbrev pub failed_end : Config → Failure → End
failed_end c e = end.Fault e.fault e.meter.used c.root

abbrev pub whole_bytes : ℕ → ℕ
whole_bytes bits = (bits + 7) / 8

-- After ED of a body the rest of the last byte may hold anything; a whole byte more is at fault, at its first bit
-- (own). A fragment has its end at the next whole byte, whatever follows
abbrev pub closing : Start → List ℕ → Config → End
closing start.Body bytes c = if nat_lt (whole_bytes c.place) (length bytes) then end.Fault (record { kind = kind.TrailingBytes; bit = 8 * whole_bytes c.place }) c.meter.used c.root else done c
closing (start.Fragment byte) bytes c = done c

abbrev pub is_end : Outer → Bool
is_end (outer.Book grammar number) = false
is_end outer.FragmentStart = false
is_end outer.FragmentContent = false
is_end outer.AloneStart = false
is_end outer.AloneFirst = false
is_end outer.AloneOver = false
is_end outer.Ended = true

abbrev pub has_ended : Config → Bool
has_ended c = is_end c.outer

-- ---- one turn: it gives an event or none, and goes on or ends
pub data Turn : Type 0 where
  goes : Option Happening → Config → Turn
  ends : Option Happening → End → Turn

abbrev pub given_turn : List ℕ → Given → Turn
given_turn bytes given = if has_ended given.1 then ends given.0 (closing given.1.start bytes given.1) else goes given.0 given.1

abbrev pub turned_by : List ℕ → Config → Result Given Failure → Turn
turned_by bytes c (Ok given) = given_turn bytes given
turned_by bytes c (Err e) = ends None (failed_end c e)

-- the last event is given in the last turn; an event that fails is a turn without one
abbrev pub turn : Setting → List ℕ → Config → Turn
turn g bytes c = turned_by bytes c (one g bytes c)

-- ---- runs
-- turns that go on lead from one configuration to another
abbrev pub Leads : Setting → List ℕ → Config → List (Option Happening) → Config → Type 0
Leads g bytes first [] last = first ≡ last
Leads g bytes first (e ∷ es) last = (next : Config) × (turn g bytes first ≡ goes e next) × Leads g bytes next es last

-- all the turns from a configuration on, of which the last ends
pub record IsRun (g : Setting) (bytes : List ℕ) (first : Config) (turns : List (Option Happening)) (e : End) : Type 0 where
  pub before : List (Option Happening)
  pub reached : Config
  pub leads : Leads g bytes first before reached
  pub event : Option Happening
  pub at_end : turn g bytes reached ≡ ends event e
  pub all : turns ≡ before ++ event ∷ []

-- the events that turns gave
abbrev pub events_of : List (Option Happening) → List Happening
events_of [] = []
events_of (None ∷ turns) = events_of turns
events_of (Some e ∷ turns) = e ∷ events_of turns

-- sequential processing: the events, the end, and the number of turns
abbrev pub IsSequence : Job → Start → Bounds → List Happening → End → ℕ → Type 0
IsSequence j start limits es e count = (turns : List (Option Happening)) × IsRun j.setting j.bytes (first j start limits) turns e × (es ≡ events_of turns) × (count ≡ length turns)
