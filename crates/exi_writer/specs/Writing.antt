-- What the calls of a writer promise, in the words of the definition of writing.
use Rattle.std.specs.Prelude.{◌≡◌, ◌+◌, ◌*◌, ◌%◌, ◌/◌, ◌&&◌, ℕ, Bool, true, false, List, [], ◌∷◌, ◌++◌, length, Option, Some, None, Result, Ok, Err, IfOk, if◌then◌else◌}
use Rattle.std.specs.Option.{is_none}
use Rattle.exi_bits.specs.Bits.{IsBytes, bits}
use Rattle.exi_bits.specs.Written.{IsWholeBytes}
use Rattle.exi_bits.specs.declared.align.Align.{Align}
use Rattle.exi_bits.specs.declared.fault.Kind.TheVariants as kind
use Rattle.exi_gram.specs.Switches.{align_of}
use Rattle.exi_meter.specs.Metering.{Bounds, IsWithinStream, Metering, text_fits, with_tally}
use Rattle.exi_meter.specs.declared.tally.Tally.{Tally}
use Rattle.exi_names.specs.declared.names.QName.{QName}
use Rattle.exi_names.specs.Events.{Happening}
use Rattle.exi_processing.specs.Changes.{innermost, resumed, same_texts, texts_of}
use Rattle.exi_processing.specs.Configurations.{Body, Config, IsSetting, Setting, first_config}
use Rattle.exi_processing.specs.Plans.{Alone, alone_in, at_end, at_first, at_start, nowhere}
use Rattle.exi_processing.specs.Runs.{IsSequence, Leads, has_ended}
use Rattle.exi_processing.specs.Splices.{AtFragment}
use Rattle.exi_processing.specs.declared.end.End.TheVariants as end
use Rattle.exi_processing.specs.declared.start.Start.{Start}
use Rattle.exi_processing.specs.declared.start.Start.TheVariants as start
use Rattle.exi_writing.specs.OneEvent.{Refused, limit, not_derived}
use Rattle.exi_names.specs.Events as event
use Rattle.exi_names.specs.StartTables.{IsStart}
use Rattle.exi_pen.specs.Pages.{Page, first_page}
use Rattle.exi_writing.specs.Pieces.{can_be_spelled}
use Rattle.exi_writing.specs.Pruned.{pruned_name}
use Rattle.exi_pen.specs.Steps.{begins_fragment}
use Rattle.exi_writing.specs.Runs.{Refusal, Run, body, opened, put, put_from, written_all}
use Rattle.exi_writing.specs.Sound.{HasSoundTables}
use Rattle.exi_writer.specs.declared.start.WriteStart.{WriteStart}
use Rattle.exi_writer.specs.declared.start.WriteStart.TheVariants as begin
use Rattle.exi_toll.specs.declared.stop.PutStop.{PutStop}
use Rattle.exi_toll.specs.declared.stop.PutStop.TheVariants as stop
use Rattle.exi_writer.specs.declared.fault.WriteFault.{WriteFault}
use Rattle.exi_writer.specs.declared.fault.WriteFault.TheVariants as fault

-- what a writer stands for: what is written by, the bits that are written, how far, and whether the fragment at which it
-- stands is to be entered or spliced
pub record Composing : Type 0 where
  pub setting : Setting
  pub bits : List Bool
  pub config : Config
  pub waits : Bool

-- a name that can be written where no prefixes are kept
abbrev pub can_be_named : QName → Bool
can_be_named n = can_be_spelled n.uri && (can_be_spelled n.local && is_none n.prefix)

-- directly behind SE the name of its element can be written again
abbrev pub CanNameAgain : Config → Type 0
CanNameAgain c = c.after_start ≡ true → can_be_named (texts_of c.tables (innermost c.elements)) ≡ true

-- Whatever bytes begin with the bits that are written, reading them leads where the writer stands
pub record IsComposed (w : Composing) : Type 0 where
  pub body : ℕ
  pub start : Start
  pub limits : Bounds
  pub within : IsWithinStream limits
  pub is_setting : IsSetting w.setting
  pub names : IsStart w.setting.schema.names
  pub sound : HasSoundTables w.config
  pub named : CanNameAgain w.config
  pub place : w.config.place ≡ length w.bits
  pub aligned : IsWholeBytes (align_of w.setting.options) w.bits
  pub leads : (bytes : List ℕ) (more : List Bool) → IsBytes bytes → bits bytes ≡ w.bits ++ more → (turns : List (Option Happening)) × Leads w.setting bytes (first_config w.setting body start limits) turns w.config

-- as far as it has not ended
abbrev pub MayGoOn : Composing → Type 0
MayGoOn w = has_ended w.config ≡ false → IsComposed w

-- directly behind SC: the fragment begins at this byte, and its element has a name that can be written again
pub record IsAtFragment (w : Composing) : Type 0 where
  pub composed : IsComposed w
  pub byte : ℕ
  pub at : AtFragment w.setting byte w.config
  pub named : can_be_named at.body.name ≡ true

-- the element that is open has this name
abbrev pub is_named : List Body → QName → Bool
is_named [] name = true
is_named (b ∷ bs) name = same_texts b.name name

-- These bits are what was written of a fragment by itself: whatever bytes have them at the byte at which the writer stands,
-- reading by itself from there gives the same events, charges this, and ends behind the bits; and the fragment's element
-- has the name of the one that is open
pub record IsPart (w : Composing) (text : List Bool) (tally : Tally) : Type 0 where
  pub byte : ℕ
  pub stands : w.config.place ≡ 8 * byte
  pub limits : Bounds
  pub events : List Happening
  pub count : ℕ
  pub name : QName
  pub same : is_named w.config.aside name ≡ true
  pub read : (bytes : List ℕ) (more : List Bool) → IsBytes bytes → bits bytes ≡ (w.bits ++ text) ++ more → IsSequence (record { setting = w.setting; bytes = bytes; body = 0 }) (start.Fragment byte) limits events (end.Done (length (w.bits ++ text)) tally (Some name)) count

-- ---- several events
abbrev pub composed_behind : Composing → Run → Bool → Composing
composed_behind w r waits = record { setting = w.setting; bits = w.bits ++ r.bits; config = r.last; waits = waits }

-- they were written, exactly so; or no production stands for one, or it passes a limit, and the charges before stand; or
-- memory was refused
abbrev pub Composes : {X : Type 0} → Result X PutStop → Composing → Composing → Bool → Result Run Refused → Type 0
Composes (Ok x) old new waits runs = (r : Run) × (runs ≡ Ok r) × (new ≡ composed_behind old r waits)
Composes (Err stop.NotDerived) old new waits runs = runs ≡ Err not_derived
Composes (Err (stop.Limit k)) old new waits runs = runs ≡ Err (limit k new.config.meter)
Composes (Err stop.Memory) old new waits runs = Unit {0}

-- where no production stands, nothing was charged
abbrev pub IsUncharged : {X : Type 0} → Result X PutStop → Composing → Composing → Type 0
IsUncharged (Ok x) old new = Unit {0}
IsUncharged (Err stop.NotDerived) old new = new.config.meter ≡ old.config.meter
IsUncharged (Err (stop.Limit k)) old new = Unit {0}
IsUncharged (Err stop.Memory) old new = Unit {0}

-- whether the charge of the name of the element that is open is within the limit of text
abbrev pub name_fits : Metering → List Body → Bool
name_fits m [] = true
name_fits m (b ∷ bs) = text_fits m (length b.name.uri + length b.name.local)

-- its fragment is entered: the limit of text is answered exactly where that charge passes it, and no other limit; that no
-- production stands is never answered
abbrev pub Enters : {X : Type 0} → Result X PutStop → Bool → Type 0
Enters (Ok x) fits = fits ≡ true
Enters (Err stop.NotDerived) fits = ⊥
Enters (Err (stop.Limit k)) fits = (k ≡ kind.TextLimit) × (fits ≡ false)
Enters (Err stop.Memory) fits = Unit {0}

-- the same of a page
abbrev pub page_after : Page → Run → Page
page_after p r = record { setting = p.setting; bits = p.bits ++ r.bits; config = r.last }

abbrev pub WritesAll : {X : Type 0} → Result X PutStop → Page → Page → Result Run Refused → Type 0
WritesAll (Ok x) old new runs = (r : Run) × (runs ≡ Ok r) × (new ≡ page_after old r)
WritesAll (Err stop.NotDerived) old new runs = runs ≡ Err not_derived
WritesAll (Err (stop.Limit k)) old new runs = runs ≡ Err (limit k new.config.meter)
WritesAll (Err stop.Memory) old new runs = Unit {0}

-- between two events
abbrev pub composing_at : Page → Composing
composing_at p = record { setting = p.setting; bits = p.bits; config = p.config; waits = false }

-- what a fragment has of its own behind its element
abbrev pub closing_in : Alone → List Happening
closing_in nowhere = []
closing_in at_start = []
closing_in at_first = []
closing_in at_end = event.ed ∷ []

abbrev pub closing_events : Config → List Happening
closing_events c = closing_in (alone_in c.elements c.outer)

-- ---- one event of a list
abbrev pub put_so_far : Setting → Config → Happening → Result Run Refused
put_so_far g c e = if begins_fragment e then written_all g c (e ∷ []) else put g c e

-- what the options leave of it is written; nothing, and nothing is changed
abbrev pub PutsOne : Result Bool PutStop → Composing → Composing → Option Happening → Type 0
PutsOne result old new None = (result ≡ Ok false) × (new ≡ old)
PutsOne result old new (Some e) = Composes result old new (begins_fragment e) (put_so_far old.setting old.config e) × IfOk result (λ b. b ≡ begins_fragment e)

-- a fragment that was written apart was taken: the outer element has ended and leaves its level, and string tables and what
-- was learned are those at SC
abbrev pub spliced_behind : Composing → List Bool → Tally → Composing
spliced_behind w text tally = record {
  setting = w.setting;
  bits = w.bits ++ text;
  config = resumed w.config.aside (record w.config { place = length (w.bits ++ text); meter = with_tally w.config.meter tally; after_start = false });
  waits = false;
}

-- the same, and where it is SC, the fragment is entered
abbrev pub PutsWhole : Result (Unit {0}) PutStop → Composing → Composing → Option Happening → Type 0
PutsWhole result old new None = (result ≡ Ok tt) × (new ≡ old)
PutsWhole result old new (Some e) = Composes result old new false (put old.setting old.config e)

-- an event that is left out counts no step
abbrev pub steps_of : Option Happening → ℕ
steps_of None = 0
steps_of (Some e) = 1

-- ---- where writing begins
-- a fragment begins at a whole byte
abbrev pub CanBegin : WriteStart → Align → List Bool → Type 0
CanBegin begin.Body a head = IsWholeBytes a head
CanBegin (begin.Fragment name) a head = length head % 8 ≡ 0

-- behind these bits
abbrev pub first_composing : Setting → Bounds → List Bool → Composing
first_composing g limits head = composing_at (first_page g start.Body limits head)

abbrev pub Opens : Result Composing PutStop → Setting → List Bool → Result Run Refused → Type 0
Opens (Ok w) g head runs = (r : Run) × (runs ≡ Ok r) × (w ≡ record { setting = g; bits = head ++ r.bits; config = r.last; waits = false })
Opens (Err stop.NotDerived) g head runs = runs ≡ Err not_derived
Opens (Err (stop.Limit k)) g head runs = (m : Metering) × (runs ≡ Err (limit k m))
Opens (Err stop.Memory) g head runs = Unit {0}

abbrev pub BeginsBody : Result Composing PutStop → Setting → Bounds → List Bool → Type 0
BeginsBody (Ok w) g limits head = w ≡ first_composing g limits head
BeginsBody (Err stop.NotDerived) g limits head = ⊥
BeginsBody (Err (stop.Limit k)) g limits head = ⊥
BeginsBody (Err stop.Memory) g limits head = Unit {0}

-- a writer stands where a body begins; or in a fragment, with its SD and the SE of this name written, as far as they can be
abbrev pub Starts : Result Composing PutStop → Setting → Bounds → WriteStart → List Bool → Type 0
Starts result g limits begin.Body head = BeginsBody result g limits head
Starts result g limits (begin.Fragment name) head = Opens result g head (opened g (length head / 8) limits (pruned_name g.options name.now))

-- ---- a whole list
-- why it is not written, at the event of this number
abbrev pub fault_of : ℕ → PutStop → WriteFault
fault_of n stop.NotDerived = fault.NotDerived n
fault_of n (stop.Limit k) = fault.Limit n k
fault_of n stop.Memory = fault.Memory

abbrev pub Bodies : Result (List Bool) WriteFault → List Bool → Result Run Refusal → Type 0
Bodies (Ok out) head written = (r : Run) × (written ≡ Ok r) × (out ≡ head ++ r.bits)
Bodies (Err (fault.NotDerived n)) head written = written ≡ Err (record { event = n; why = not_derived })
Bodies (Err (fault.Limit n k)) head written = (m : Metering) × (written ≡ Err (record { event = n; why = limit k m }))
Bodies (Err fault.Memory) head written = Unit {0}

-- ---- a list, one event after another
-- what a writer of a list stands for: what is written of it, the number of the next event, counted from 1, and why no more are
-- taken, where one was refused
pub record Listing : Type 0 where
  pub written : Composing
  pub number : ℕ
  pub refused : Option WriteFault

-- these are the answers where these events come now, and then the list's end
abbrev pub AnswersBy : Option WriteFault → Result (List Bool) WriteFault → Composing → ℕ → List Happening → Type 0
AnswersBy None answer w n es = Bodies answer w.bits (put_from n w.setting w.config es)
AnswersBy (Some f) answer w n es = answer ≡ Err f

abbrev pub Answers : Result (List Bool) WriteFault → Listing → List Happening → Type 0
Answers answer l es = AnswersBy l.refused answer l.written l.number es

-- before its first event: what is answered of any list is the body of that list behind these bits
pub record Begins (head : List Bool) (g : Setting) (limits : Bounds) (l : Listing) : Type 0 where
  pub whole : (es : List Happening) (answer : Result (List Bool) WriteFault) → Answers answer l es → Bodies answer head (body g (length head) limits es)

-- an event was taken: whatever comes behind it, what is answered now was to be answered of it and of what comes behind it
pub record Takes (old : Listing) (e : Happening) (new : Listing) : Type 0 where
  pub behind : (es : List Happening) (answer : Result (List Bool) WriteFault) → Answers answer new es → Answers answer old (e ∷ es)

-- the next event may come: where none was refused, it stands between two events
abbrev pub MayTakeBy : Option WriteFault → Composing → Type 0
MayTakeBy None w = (w.waits ≡ false) × MayGoOn w
MayTakeBy (Some f) w = Unit {0}

abbrev pub MayTake : Listing → Type 0
MayTake l = MayTakeBy l.refused l.written
