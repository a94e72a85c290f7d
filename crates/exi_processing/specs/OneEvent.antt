-- One event: what is read in a configuration, and the next configuration (EXI 1.0, sections 6, 7.1 and 8.4).
--
-- The first point that fails gives the fault: the parts of the event's code; an event that may not stand behind the
-- element of a self-contained fragment; the limit of events; SC in a wrong place; the limit of depth; the names and the
-- value; a type that is not there; another element than the one that a self-contained fragment stands for. A limit's
-- fault has the first bit of the event's code (own).
use Rattle.std.specs.Prelude.{ℕ, Bool, true, false, List, Option, Some, None, Result, Ok, Err, if◌then◌else◌}
use Rattle.exi_bits.specs.Bits.{at_next_byte}
use Rattle.exi_bits.specs.declared.fault.Fault.{Fault}
use Rattle.exi_bits.specs.declared.fault.Kind.{Kind}
use Rattle.exi_bits.specs.declared.fault.Kind.TheVariants as kind
use Rattle.exi_bits.specs.Unsigned.{◌>>=◌}
use Rattle.exi_gram.specs.Codes.{code_at}
use Rattle.exi_gram.specs.Switches.{align_of}
use Rattle.exi_meter.specs.Metering.{Metering, event_fits, level_fits, with_event, with_level}
use Rattle.exi_names.specs.Events.{Happening, at, ch, cm, dt, ed, ee, er, ns, pi, sc, sd, se}
use Rattle.exi_typed.specs.ReadStates.{ReadState, Failure, at_spot_of, failing}
use Rattle.exi_processing.specs.Configurations.{Config, Setting, read_state_in, reached, rules_of, spot_in}
use Rattle.exi_processing.specs.Plans.{Given, Plan, plan_of}

-- ---- what is refused, and what is charged
abbrev pub failed : {X : Type 0} → Kind → ℕ → Metering → Result X Failure
failed k bit m = Err (record { fault = record { kind = k; bit = bit }; meter = m })

abbrev pub unless : Option Kind → ℕ → Metering → Result Metering Failure
unless None bit m = Ok m
unless (Some k) bit m = failed k bit m

-- one more event
abbrev pub event_charge : Bool → ℕ → Metering → Result Metering Failure
event_charge false bit m = Ok m
event_charge true bit m = if event_fits m then Ok (with_event m) else failed kind.EventLimit bit m

-- one more open element
abbrev pub level_charge : Bool → ℕ → Metering → Result Metering Failure
level_charge false bit m = Ok m
level_charge true bit m = if level_fits m then Ok (with_level m) else failed kind.DepthLimit bit m

-- before the content
unfoldable pub charge_at : ℕ → Plan → Metering → Result Metering Failure
charge_at bit p m = do
  free ← unless p.barred bit m
  counted ← event_charge p.counted bit free
  placed ← unless p.misplaced bit counted
  level_charge p.entered bit placed

abbrev is_text_limit : Kind → Bool
is_text_limit kind.TextLimit = true
is_text_limit kind.NoExi = false
is_text_limit kind.Version = false
is_text_limit (kind.Unsupported part) = false
is_text_limit kind.Conflict = false
is_text_limit kind.WrongSchema = false
is_text_limit kind.Short = false
is_text_limit kind.TooWide = false
is_text_limit kind.BadFloat = false
is_text_limit kind.BadChar = false
is_text_limit kind.BadMoment = false
is_text_limit kind.BadPlace = false
is_text_limit kind.ListTooLong = false
is_text_limit kind.NoCode = false
is_text_limit kind.BadType = false
is_text_limit kind.ScPlace = false
is_text_limit kind.ScRoot = false
is_text_limit kind.ScNotOne = false
is_text_limit kind.EventLimit = false
is_text_limit kind.DepthLimit = false
is_text_limit kind.TrailingBytes = false

abbrev pub moved_limit : ℕ → Fault → Fault
moved_limit bit f = if is_text_limit f.kind then record f { bit = bit } else f

-- a limit of text that is passed within an event has the event's bit
abbrev pub at_event : {X : Type 0} → ℕ → Result X Failure → Result X Failure
at_event bit (Ok x) = Ok x
at_event bit (Err e) = Err (record e { fault = moved_limit bit e.fault })

-- ---- one event
abbrev pub behind : Bool → ReadState → ReadState
behind false k = k
behind true k = at_spot_of k (at_next_byte k.spot)

abbrev is_start_event : Happening → Bool
is_start_event (se name) = true
is_start_event sd = false
is_start_event ed = false
is_start_event ee = false
is_start_event (at name found) = false
is_start_event (ch found) = false
is_start_event (ns uri prefix element) = false
is_start_event (sc byte) = false
is_start_event (cm text) = false
is_start_event (pi target text) = false
is_start_event (dt name public system text) = false
is_start_event (er name) = false

abbrev pub is_start : Option Happening → Bool
is_start (Some e) = is_start_event e
is_start None = false

-- whether the event is an SE is remembered
abbrev pub remembered : Given → Given
remembered given = (given.0, record given.1 { after_start = is_start given.0 })

-- what a plan does behind the code, whose first bit is given
unfoldable pub followed : List ℕ → ℕ → Plan → Config → Result Given Failure
followed bytes bit p c = do
  meter ← charge_at bit p c.meter
  found ← at_event bit (p.read (read_state_in bytes meter c))
  free ← unless (p.refused found.0) bit found.1.context.meter
  Ok (remembered (p.make found.0 (reached (behind p.padded found.1) c)))

-- the next event and configuration, or the first fault
unfoldable pub one : Setting → List ℕ → Config → Result Given Failure
one g bytes c = do
  chosen ← failing c.meter (code_at (align_of g.options) (rules_of g c) (spot_in bytes c))
  followed bytes c.place (plan_of g c chosen.0) (record c { place = chosen.1.place })
