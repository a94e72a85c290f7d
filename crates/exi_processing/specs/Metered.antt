-- One event charges a list of dues, whatever the meter is, and goes on without the meter. The limits are the codec's own.
use Rattle.std.specs.Prelude.{◌≡◌, ℕ, Bool, List, [], ◌∷◌, ◌++◌, Option, Result, Ok, Err, if◌then◌else◌}
use Rattle.exi_bits.specs.Bits.{rest}
use Rattle.exi_bits.specs.declared.fault.Fault.{Fault}
use Rattle.exi_bits.specs.declared.fault.Kind.{Kind}
use Rattle.exi_bits.specs.declared.fault.Kind.TheVariants as kind
use Rattle.exi_meter.specs.Metering.{Metering, event_fits, level_fits, text_fits, with_event, with_level, with_text}
use Rattle.exi_names.specs.Events.{Happening}
use Rattle.exi_typed.specs.ReadStates.{Failure}
use Rattle.exi_processing.specs.Changes.{left_level}
use Rattle.exi_processing.specs.Configurations.{Config, IsSetting, Setting, spot_in}
use Rattle.exi_processing.specs.OneEvent.{one}
use Rattle.exi_processing.specs.Plans.{Given}
use Rattle.exi_processing.specs.Spelled.{IsIn, IsOne}

-- one event, one level, so many units of text
pub data Due : Type 0 where
  event : Due
  level : Due
  text : ℕ → Due

abbrev pub due_fits : Due → Metering → Bool
due_fits event m = event_fits m
due_fits level m = level_fits m
due_fits (text units) m = text_fits m units

abbrev pub with_due : Due → Metering → Metering
with_due event m = with_event m
with_due level m = with_level m
with_due (text units) m = with_text m units

abbrev pub limit_of : Due → Kind
limit_of event = kind.EventLimit
limit_of level = kind.DepthLimit
limit_of (text units) = kind.TextLimit

abbrev pub with_meter : Metering → Config → Config
with_meter m c = record c { meter = m }

-- what one event gives without a meter, and whether a level is left
pub record Outcome : Type 0 where
  pub event : Option Happening
  pub next : Config
  pub leaves : Bool

abbrev pub outcome : Metering → Result Outcome Fault → Result Given Failure
outcome m (Ok o) = Ok (o.event, with_meter (left_level o.leaves m) o.next)
outcome m (Err f) = Err (record { fault = f; meter = m })

-- the dues in turn, and then this; the first that does not fit is its limit's fault at the event's bit, with those
-- before it charged
abbrev pub paying : ℕ → List Due → Metering → Result Outcome Fault → Result Given Failure
paying bit [] m r = outcome m r
paying bit (d ∷ ds) m r = if due_fits d m then paying bit ds (with_due d m) r else Err (record { fault = record { kind = limit_of d; bit = bit }; meter = m })

pub record IsPaid (bit : ℕ) (read : Metering → Result Given Failure) : Type 0 where
  pub dues : List Due
  pub rest : Result Outcome Fault
  pub is : (m : Metering) → read m ≡ paying bit dues m rest

abbrev pub OneIsMetered : Type 0
OneIsMetered = (g : Setting) (bytes : List ℕ) (c : Config) → IsPaid c.place (λ m. one g bytes (with_meter m c))

-- What is spelled here is read under any meter, whatever follows: the dues are asked in turn, and the first that does not fit is
-- its limit's fault at the event's first bit. Under the configuration's own meter it comes to what is spelled
pub record IsAsked (g : Setting) (bytes : List ℕ) (c : Config) (given : Given) : Type 0 where
  pub dues : List Due
  pub outcome_is : Outcome
  pub is : (m : Metering) → one g bytes (with_meter m c) ≡ paying c.place dues m (Ok outcome_is)
  pub own : paying c.place dues c.meter (Ok outcome_is) ≡ Ok given

abbrev pub SpelledIsAsked : Type 0
SpelledIsAsked = (g : Setting) (bytes : List ℕ) (c : Config) (given : Given) (text more : List Bool) → IsSetting g → IsIn g bytes c → IsOne g c given text → rest (spot_in bytes c) ≡ text ++ more → IsAsked g bytes c given
