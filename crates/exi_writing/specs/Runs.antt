-- A list of events written, one after another to its end (EXI 1.0, sections 5.4, 6 and 8.4.3).
use Rattle.std.specs.Prelude.{◌≡◌, ℕ, suc, Bool, List, [], ◌∷◌, ◌++◌, Option, Some, None, Result, Ok, Err, if◌then◌else◌}
use Rattle.exi_meter.specs.Metering.{Bounds}
use Rattle.exi_names.specs.declared.names.QName.{QName}
use Rattle.exi_names.specs.Events.{Happening}
use Rattle.exi_names.specs.Events as event
use Rattle.exi_processing.specs.Configurations.{Body, Config, Setting, first_config}
use Rattle.exi_processing.specs.Plans.{Alone, alone_in, at_end, at_first, at_start, nowhere}
use Rattle.exi_processing.specs.Runs.{has_ended}
use Rattle.exi_processing.specs.declared.start.Start.TheVariants as start
use Rattle.exi_writing.specs.OneEvent.{Refused, Written, not_derived, written}
use Rattle.exi_writing.specs.OneEvent.{◌>>=◌}
use Rattle.exi_writing.specs.Pruned.{pruned}

-- what is written of events: the bits, the events that are then read, and the configuration behind them
pub record Run : Type 0 where
  pub bits : List Bool
  pub events : List (Option Happening)
  pub last : Config

abbrev pub nothing_from : Config → Run
nothing_from c = record { bits = []; events = []; last = c }

abbrev pub in_front : Written → Run → Run
in_front w r = record { bits = w.bits ++ r.bits; events = w.given.0 ∷ r.events; last = r.last }

abbrev pub then_run : Written → Result Run Refused → Result Run Refused
then_run w (Ok r) = Ok (in_front w r)
then_run w (Err e) = Err e

-- several events, one after another
abbrev pub written_all : Setting → Config → List Happening → Result Run Refused
written_all g c [] = Ok (nothing_from c)
written_all g c (e ∷ es) = written g c e >>= (λ w. then_run w (written_all g w.given.1 es))

-- ---- what a self-contained fragment has of its own: its SD and the SE of the name that was put aside, and behind its
-- element its ED
abbrev name_aside : List Body → List Happening
name_aside [] = []
name_aside (b ∷ bs) = event.sd ∷ event.se b.name ∷ []

abbrev own_in : Alone → List Body → List Happening
own_in nowhere aside = []
own_in at_start aside = name_aside aside
own_in at_first aside = []
own_in at_end aside = event.ed ∷ []

abbrev pub own : Config → List Happening
own c = own_in (alone_in c.elements c.outer) c.aside

-- an event, and what the fragment has of its own behind it
unfoldable pub put : Setting → Config → Happening → Result Run Refused
put g c e = written g c e >>= (λ w. then_run w (written_all g w.given.1 (own w.given.1)))

-- ---- a whole list
-- at which event, counted from 1, and why
pub record Refusal : Type 0 where
  pub event : ℕ
  pub why : Refused

abbrev pub behind_run : Run → Result Run Refusal → Result Run Refusal
behind_run r (Ok s) = Ok (record { bits = r.bits ++ s.bits; events = r.events ++ s.events; last = s.last })
behind_run r (Err e) = Err e

-- an event of this number, and what comes behind it
abbrev pub go_on : ℕ → Result Run Refused → (Config → Result Run Refusal) → Result Run Refusal
go_on n (Err why) others = Err (record { event = n; why = why })
go_on n (Ok r) others = behind_run r (others r.last)

-- what the options switch off is left out
abbrev pub put_then : ℕ → Setting → Config → Option Happening → (Config → Result Run Refusal) → Result Run Refusal
put_then n g c None others = others c
put_then n g c (Some e) others = go_on n (put g c e) others

-- the list goes on with events of these numbers, and ends with ED
abbrev pub put_from : ℕ → Setting → Config → List Happening → Result Run Refusal
put_from n g c [] = if has_ended c then Ok (nothing_from c) else Err (record { event = n; why = not_derived })
put_from n g c (e ∷ es) = put_then n g c (pruned g.options e) (λ d. put_from (suc n) g d es)

-- a body behind so many bits
unfoldable pub body : Setting → ℕ → Bounds → List Happening → Result Run Refusal
body g bits limits es = put_from 1 g (first_config g bits start.Body limits) es

-- a fragment of an element of this name, by itself, at this byte: its own SD and SE first
abbrev pub opened : Setting → ℕ → Bounds → QName → Result Run Refused
opened g byte limits name = written_all g (first_config g 0 (start.Fragment byte) limits) (event.sd ∷ event.se name ∷ [])

-- the list can be written: under some limits it is
abbrev pub Derives : Setting → List Happening → Type 0
Derives g es = (limits : Bounds) × (r : Run) × (body g 0 limits es ≡ Ok r)
