-- A fragment that is written by itself, at whatever byte and behind whatever bits, and the list at the writing of which it is then
-- taken (EXI 1.0, section 8.4.3).
use Rattle.std.specs.Prelude.{◌≡◌, ◌/◌, ℕ, Bool, true, false, List, ◌∷◌, ◌++◌, length, Option, Some, Ok}
use Rattle.exi_meter.specs.Metering.{Bounds}
use Rattle.exi_names.specs.declared.names.QName.{QName}
use Rattle.exi_names.specs.Events.{Happening}
use Rattle.exi_names.specs.Events as event
use Rattle.exi_processing.specs.Configurations.{Setting, first_config}
use Rattle.exi_processing.specs.Runs.{has_ended}
use Rattle.exi_processing.specs.declared.start.Start.TheVariants as start
use Rattle.exi_writing.specs.Runs.{Run, opened, own, written_all}
use Rattle.exi_writer.specs.Writing.{Composes, Composing, IsAtFragment, IsPart, Opens, PutsOne, is_named}

-- a writer that began behind these bits, at a fragment of an element of this name, stands behind events that it wrote: the
-- fragment's SD, the SE of its element, and what came then
pub record IsApart (head : List Bool) (limits : Bounds) (name : QName) (v : Composing) : Type 0 where
  pub events : List Happening
  pub run : Run
  pub are : written_all v.setting (first_config v.setting 0 (start.Fragment (length head / 8)) limits) (event.sd ∷ event.se name ∷ events) ≡ Ok run
  pub bits : v.bits ≡ head ++ run.bits
  pub config : v.config ≡ run.last

-- it does where it begins
abbrev pub ApartBegins : Type 0
ApartBegins = (head : List Bool) (g : Setting) (limits : Bounds) (name : QName) (v : Composing) → Opens (Ok v) g head (opened g (length head / 8) limits name) → IsApart head limits name v

-- behind an event that it puts, and where it enters a fragment of its own
abbrev pub ApartPuts : Type 0
ApartPuts = (head : List Bool) (limits : Bounds) (name : QName) (old new : Composing) (begins : Bool) (left : Option Happening) → IsApart head limits name old → PutsOne (Ok begins) old new left → IsApart head limits name new

abbrev pub ApartEnters : Type 0
ApartEnters = (head : List Bool) (limits : Bounds) (name : QName) (old new : Composing) → IsApart head limits name old → Composes {X = Unit {0}} (Ok tt) old new false (written_all old.setting old.config (own old.config)) → IsApart head limits name new

-- where SC follows the SE of an element, the fragment is one of an element of that name
abbrev pub NamedBehindStart : Type 0
NamedBehindStart = (before behind w : Composing) (name : QName) (byte : ℕ) → PutsOne (Ok false) before behind (Some (event.se name)) → PutsOne (Ok true) behind w (Some (event.sc byte)) → is_named w.config.aside name ≡ true

-- and once it has ended, what it wrote behind those bits, and all that it charged, are a part of any list by the same options
-- and schema whose writer stands at a fragment of an element of that name
abbrev pub ApartIsPart : Type 0
ApartIsPart = (w v : Composing) (head text : List Bool) (limits : Bounds) (name : QName) → IsAtFragment w → v.setting ≡ w.setting → IsApart head limits name v → has_ended v.config ≡ true → v.bits ≡ head ++ text → is_named w.config.aside name ≡ true → IsPart w text v.config.meter.used
