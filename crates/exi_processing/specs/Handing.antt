-- How a reader makes one event: in its own words, and in parts. The parts together are the one event of the definition.
use Rattle.std.specs.Prelude.{◌≡◌, ◌≢◌, ◌⊎◌, ◌<◌, ◌+◌, ◌-◌, ◌^◌, ℕ, length, Bool, true, false, List, [], ◌∷◌, Option, Some, None, Result, Ok, Err, if◌then◌else◌}
use Rattle.std.specs.Option.{option_copied}
use Rattle.exi_bits.specs.Bits.{Spot}
use Rattle.exi_bits.specs.declared.fault.Fault.{Fault}
use Rattle.exi_bits.specs.declared.fault.Kind.TheVariants as kind
use Rattle.exi_bits.specs.declared.fault.Stop.{Stop}
use Rattle.exi_bits.specs.declared.fault.Stop.TheVariants as stop
use Rattle.exi_bits.specs.Unsigned.{◌>>=◌}
use Rattle.exi_builtin.specs.declared.learnable.Learnable.{Learnable}
use Rattle.exi_builtin.specs.declared.learnable.Learned.{Learned}
use Rattle.exi_builtin.specs.declared.learnable.Learned.TheVariants as used
use Rattle.exi_builtin.specs.declared.learnable.Room.{Room}
use Rattle.exi_builtin.specs.Learning.{IsRoom, Learning, learned_in, state_behind}
use Rattle.exi_gram.specs.Books.{IsStateOf}
use Rattle.exi_gram.specs.Codes.{Productions, code_at}
use Rattle.exi_gram.specs.Switches.{align_of}
use Rattle.exi_meter.specs.Metering.{Metering}
use Rattle.exi_names.specs.Datatypes.{Representation, represented}
use Rattle.exi_names.specs.Datatypes as datatype
use Rattle.exi_names.specs.Events.{Happening}
use Rattle.exi_names.specs.Events as event
use Rattle.exi_names.specs.Seen.{Value}
use Rattle.exi_names.specs.Seen as value
use Rattle.exi_names.specs.declared.datatype.Datatype.{Datatype}
use Rattle.exi_names.specs.declared.names.NameId.{NameId}
use Rattle.exi_names.specs.declared.names.QName.{QName}
use Rattle.exi_names.specs.declared.stops.PushStop.{PushStop}
use Rattle.exi_names.specs.declared.stops.PushStop.TheVariants as push
use Rattle.exi_tables.specs.Growth.{NoneLonger}
use Rattle.exi_tables.specs.Partitions.{IsName, Partitions, uris}
use Rattle.exi_typed.specs.ReadStates.{Failure}
use Rattle.exi_typed.specs.Strings.{Named}
use Rattle.exi_values.specs.Valued.{valued_at}
use Rattle.exi_processing.specs.Changes as changes
use Rattle.exi_processing.specs.Changes.{Effect, effect_of, effected, emptied, emptied_elements, has_level, innermost, leads, moved_elements, moves, outer_behind, put_aside, restated, retyped, room_in, root_in, stays}
use Rattle.exi_processing.specs.Configurations.{Body, Config, Setting, body_outer, built_in, read_state_in, reached, rules_of, spot_in}
use Rattle.exi_processing.specs.Contents.{attribute_value_at}
use Rattle.exi_processing.specs.Fragments.{fragments_in}
use Rattle.exi_processing.specs.OneEvent.{behind, event_charge, level_charge, remembered, unless}
use Rattle.exi_processing.specs.Plans.{Given, Plan, barred_in, is_event, no_element, wrong_element}
use Rattle.exi_processing.specs.Plans as plans
use Rattle.exi_processing.specs.Rules.{Rule, Telling, Terminal, Valuing, attribute, built_in_terminal, by_name, characters, comment, declaration, document_type, element, end_document, end_element, entity, instruction, known, self_contained, spelled, start_document, typed, under, untyped}
use Rattle.exi_processing.specs.Runs.{Job}
use Rattle.exi_processing.specs.Stacks.{HasForm}
use Rattle.exi_processing.specs.declared.alone.Alone.{Alone}
use Rattle.exi_processing.specs.declared.alone.Alone.TheVariants as alone
use Rattle.exi_processing.specs.declared.charges.Charges.{Charges}
use Rattle.exi_processing.specs.declared.frames.Element.{Element}
use Rattle.exi_processing.specs.declared.frames.Outer.{Outer}
use Rattle.exi_processing.specs.declared.frames.Outer.TheVariants as outer
use Rattle.exi_processing.specs.declared.frames.State.{State}
use Rattle.exi_processing.specs.declared.frames.State.TheVariants as state
use Rattle.exi_processing.specs.declared.halt.Halt.{Halt}
use Rattle.exi_processing.specs.declared.halt.Halt.TheVariants as halt
use Rattle.exi_processing.specs.declared.rule.Content.{Content}
use Rattle.exi_processing.specs.declared.rule.Content.TheVariants as content
use Rattle.exi_processing.specs.declared.rule.Rule.{Rule as Kept}
use Rattle.exi_processing.specs.declared.rule.Telling.{Telling as Told}
use Rattle.exi_processing.specs.declared.rule.Telling.TheVariants as told
use Rattle.exi_processing.specs.declared.rule.Valuing.{Valuing as Kind}
use Rattle.exi_processing.specs.declared.rule.Valuing.TheVariants as valued
use Rattle.exi_processing.specs.declared.start.Start.{Start}
use Rattle.exi_processing.specs.declared.start.Start.TheVariants as start

-- what a reader stands for: what is read by, what is read, and how far
pub record Standing : Type 0 where
  pub setting : Setting
  pub bytes : List ℕ
  pub config : Config

abbrev pub with_config : Standing → Config → Standing
with_config s c = record s { config = c }

-- ---- its words
abbrev pub alone_of : Alone → plans.Alone
alone_of alone.Nowhere = plans.nowhere
alone_of alone.AtStart = plans.at_start
alone_of alone.AtFirst = plans.at_first
alone_of alone.AtEnd = plans.at_end

abbrev pub telling_of : Told → Telling
telling_of told.Spelled = spelled
telling_of (told.Under uri) = under uri
telling_of (told.Known id) = known id

-- the datatype that a production has, or a string
abbrev pub datatype_in : Option Datatype → Representation
datatype_in None = datatype.text
datatype_in (Some d) = represented d

abbrev pub valuing_in : Kind → Option Datatype → Valuing
valuing_in valued.Untyped d = untyped
valuing_in valued.Typed d = typed (datatype_in d)
valuing_in valued.ByName d = by_name

abbrev pub terminal_in : Content → Option Datatype → Terminal
terminal_in content.StartDocument d = start_document
terminal_in content.EndDocument d = end_document
terminal_in (content.Element name) d = element (telling_of name)
terminal_in (content.Attribute name v) d = attribute (telling_of name) (valuing_in v d)
terminal_in content.Characters d = characters (datatype_in d)
terminal_in content.EndElement d = end_element
terminal_in content.Declaration d = declaration
terminal_in content.SelfContained d = self_contained
terminal_in content.Comment d = comment
terminal_in content.Instruction d = instruction
terminal_in content.DocumentType d = document_type
terminal_in content.Entity d = entity

abbrev pub rule_in : Kept → Rule
rule_in r = record { on = terminal_in r.on (option_copied r.datatype); to = r.to; inner = r.inner }

-- a rule of which only the state that follows counts
abbrev pub leading_to : ℕ → Rule
leading_to to = record { on = end_element; to = to; inner = None }

-- ---- what is charged before the content
abbrev pub charges_on : plans.Alone → Bool → Terminal → Charges
charges_on a after start_document = record { barred = barred_in a; counted = is_event a; misplaced = None; entered = false }
charges_on a after end_document = record { barred = None; counted = is_event a; misplaced = None; entered = false }
charges_on a after (element t) = record { barred = barred_in a; counted = is_event a; misplaced = None; entered = is_event a }
charges_on a after (attribute t v) = record { barred = barred_in a; counted = true; misplaced = None; entered = false }
charges_on a after (characters d) = record { barred = barred_in a; counted = true; misplaced = None; entered = false }
charges_on a after end_element = record { barred = barred_in a; counted = true; misplaced = None; entered = false }
charges_on a after declaration = record { barred = barred_in a; counted = true; misplaced = None; entered = false }
charges_on a after self_contained = record { barred = barred_in a; counted = true; misplaced = if after then None else Some kind.ScPlace; entered = false }
charges_on a after comment = record { barred = barred_in a; counted = true; misplaced = None; entered = false }
charges_on a after instruction = record { barred = barred_in a; counted = true; misplaced = None; entered = false }
charges_on a after document_type = record { barred = barred_in a; counted = true; misplaced = None; entered = false }
charges_on a after entity = record { barred = barred_in a; counted = true; misplaced = None; entered = false }

unfoldable pub charged_at : ℕ → Charges → Metering → Result Metering Failure
charged_at bit k m = do
  free ← unless k.barred bit m
  counted ← event_charge k.counted bit free
  placed ← unless k.misplaced bit counted
  level_charge k.entered bit placed

-- what a reader answers to that
abbrev pub Pays : Result (Unit {0}) Fault → Metering → Result Metering Failure → Type 0
Pays (Ok x) m read = read ≡ Ok m
Pays (Err f) m read = read ≡ Err (record { fault = f; meter = m })

-- ---- the content, and what is made of it
unfoldable pub making : List ℕ → ℕ → Plan → Config → Result Given Failure
making bytes bit p c = do
  found ← p.read (read_state_in bytes c.meter c)
  free ← unless (p.refused found.0) bit found.1.context.meter
  Ok (remembered (p.make found.0 (reached (behind p.padded found.1) c)))

-- what is made of the value of characters, in a configuration that has read it
abbrev pub characters_made : Value → ℕ → Config → Result Given Failure
characters_made v to c = Ok (remembered (Some (event.ch v), moves to (changes.learns used.Ch c)))

-- the value of an attribute whose name is read, in a configuration that has learned it
unfoldable pub value_made : Setting → List ℕ → ℕ → plans.Alone → Valuing → Named → ℕ → Config → Result Given Failure
value_made g bytes bit a v name to c = do
  found ← attribute_value_at g v name (read_state_in bytes c.meter c)
  free ← unless (no_element a) bit found.1.context.meter
  Ok (Some (event.at name.name found.0), record (effected (effect_of g v name.id found.0) to (reached found.1 c)) { after_start = false })

-- what an attribute does that names a type, where that has a grammar or none
abbrev pub typing : Kind → Option ℕ → Effect
typing v (Some grammar) = retyped grammar
typing valued.Untyped None = leads
typing valued.Typed None = stays
typing valued.ByName None = stays

-- the open elements and the state outside of all then
abbrev pub effected_elements : Effect → ℕ → List Element → List Element
effected_elements leads to es = moved_elements to es
effected_elements (retyped grammar) to es = restated (state.Informed grammar 0 false) es
effected_elements emptied to es = emptied_elements es
effected_elements stays to es = es

abbrev pub effected_outer : Effect → ℕ → List Element → Outer → Outer
effected_outer leads to es o = outer_behind to es o
effected_outer (retyped grammar) to es o = o
effected_outer emptied to es o = o
effected_outer stays to es o = o

-- xsi:nil empties the innermost element where it is true
abbrev pub is_true : Value → Bool
is_true (value.text t) = false
is_true (value.boolean truth digit) = truth
is_true (value.integer n) = false
is_true (value.decimal minus whole back) = false
is_true (value.float mantissa exponent) = false
is_true (value.moment m) = false
is_true (value.binary hex octets) = false
is_true (value.items vs) = false
is_true (value.name n) = false

abbrev pub emptied_by : Value → List Element → List Element
emptied_by v es = if is_true v then emptied_elements es else es

-- the same, of a representation that no name has to tell
unfoldable pub valued_made : Setting → List ℕ → ℕ → plans.Alone → Representation → Named → ℕ → Config → Result Given Failure
valued_made g bytes bit a d name to c = do
  found ← valued_at d (align_of g.options) name.id (read_state_in bytes c.meter c)
  free ← unless (no_element a) bit found.1.context.meter
  Ok (Some (event.at name.name found.0), record (moves to (reached found.1 c)) { after_start = false })

-- ---- what is handed on
abbrev pub listed : Option Happening → List Happening
listed None = []
listed (Some e) = e ∷ []

abbrev pub stop_halt : Stop → Halt
stop_halt (stop.Fault f) = halt.Fault f
stop_halt stop.Memory = halt.Memory

abbrev pub push_halt : PushStop → Halt
push_halt push.Memory = halt.Memory
push_halt push.Stopped = halt.Stopped

-- The event was handed on, or there was none, and no fragment begins; or the content is at fault, with all charges before; or
-- memory was refused, before or behind the event; or the event stopped what takes the events.
abbrev pub Hands : {T : Type 0} → (T → List Happening → T → Type 0) → (T → Happening → T → Type 0) → Result (Unit {0}) Halt → Config → Result Given Failure → T → T → Type 0
Hands took broke (Ok x) new read before after = (e : Option Happening) × (read ≡ Ok (e, new)) × took before (listed e) after × (fragments_in (listed e) ≡ 0)
Hands took broke (Err (halt.Fault f)) new read before after = (read ≡ Err (record { fault = f; meter = new.meter })) × took before [] after
Hands took broke (Err halt.Memory) new read before after = took before [] after ⊎ ((e : Happening) × (next : Config) × (read ≡ Ok (Some e, next)) × took before (e ∷ []) after)
Hands took broke (Err halt.Stopped) new read before after = (e : Happening) × (next : Config) × (read ≡ Ok (Some e, next)) × broke before e after

-- SC, with the byte at which the fragment begins: the body is put aside
abbrev pub HandsFragment : {T : Type 0} → (T → List Happening → T → Type 0) → (T → Happening → T → Type 0) → Result ℕ Halt → Standing → Result Given Failure → T → T → Type 0
HandsFragment took broke (Ok byte) new read before after = (read ≡ Ok (Some (event.sc byte), put_aside new.setting new.config)) × took before (event.sc byte ∷ []) after
HandsFragment took broke (Err (halt.Fault f)) new read before after = (read ≡ Err (record { fault = f; meter = new.config.meter })) × took before [] after
HandsFragment took broke (Err halt.Memory) new read before after = took before [] after ⊎ ((e : Happening) × (next : Config) × (read ≡ Ok (Some e, next)) × took before (e ∷ []) after)
HandsFragment took broke (Err halt.Stopped) new read before after = (e : Happening) × (next : Config) × (read ≡ Ok (Some e, next)) × broke before e after

-- what holds at a fault
abbrev pub OnFault : {X : Type 0} → Result X Halt → Type 0 → Type 0
OnFault (Ok x) P = Unit {0}
OnFault (Err (halt.Fault f)) P = P
OnFault (Err halt.Memory) P = Unit {0}
OnFault (Err halt.Stopped) P = Unit {0}

-- a rule of which the state that follows and the grammar that is opened count
abbrev pub opening_to : ℕ → Option ℕ → Rule
opening_to to inner = record { on = end_element; to = to; inner = inner }

-- ---- what has to stand
-- the state that learns, if one does, is one of a grammar that was made, and no state learned much
pub record CanLearn (o : Option Room) (l : Learning) : Type 0 where
  pub there : (r : Room) → o ≡ Some r → IsRoom l r
  pub few : (r : Room) → length (learned_in l r) < 2 ^ 31

-- the name or the URI that a code told stands in the tables
pub record IsTold (telling : Told) (p : Partitions) : Type 0 where
  pub known : (id : NameId) → telling ≡ told.Known id → IsName p id
  pub under : (uri : ℕ) → telling ≡ told.Under uri → uri < length (uris p)

-- what is learned from the use of a name
abbrev pub learned_by : Telling → Option Room → Learned → Learning → Learning
learned_by spelled o u l = changes.learned_in o u l
learned_by (under uri) o u l = changes.learned_in o u l
learned_by (known id) o u l = l

-- the root of a fragment, where its element is to come, is the one that was put aside; or where reading began there it is
-- any, and is kept
abbrev pub root_at : plans.Alone → List Body → QName → Option QName → Option QName
root_at plans.nowhere aside name root = root
root_at plans.at_start aside name root = root
root_at plans.at_first aside name root = root_in aside name root
root_at plans.at_end aside name root = root

abbrev pub Meets : Result (Unit {0}) Stop → plans.Alone → List Body → QName → Option QName → Option QName → ℕ → Type 0
Meets (Ok x) a aside name old new bit = (wrong_element a aside name ≡ None) × (new ≡ root_at a aside name old)
Meets (Err (stop.Fault f)) a aside name old new bit = (wrong_element a aside name ≡ Some kind.ScRoot) × (f ≡ record { kind = kind.ScRoot; bit = bit }) × (new ≡ old)
Meets (Err stop.Memory) a aside name old new bit = Unit {0}

-- ---- the code
-- further on, at this bit
abbrev pub with_place : Standing → ℕ → Standing
with_place s place = record s { config = record s.config { place = place } }

-- reading a code moves the place; at a fault it stays
abbrev pub Picks : Result Kept Fault → Standing → Standing → Productions Rule → Type 0
Picks (Ok r) old new p = (code_at (align_of old.setting.options) p (spot_in old.bytes old.config) ≡ Ok (rule_in r, spot_in old.bytes new.config)) × (new ≡ with_place old new.config.place)
Picks (Err f) old new p = (code_at (align_of old.setting.options) p (spot_in old.bytes old.config) ≡ Err f) × (new ≡ old)

-- the same of a production of a built-in grammar
abbrev pub PicksBuiltIn : Room → Result Learnable Fault → Standing → Standing → Type 0
PicksBuiltIn room (Ok p) old new =
    (code_at (align_of old.setting.options) (built_in old.setting old.config.learned room) (spot_in old.bytes old.config) ≡ Ok (record { on = built_in_terminal p; to = state_behind room p; inner = None }, spot_in old.bytes new.config))
    × (new ≡ with_place old new.config.place)
PicksBuiltIn room (Err f) old new = (code_at (align_of old.setting.options) (built_in old.setting old.config.learned room) (spot_in old.bytes old.config) ≡ Err f) × (new ≡ old)

-- the state exists
abbrev pub IsThere : Setting → Outer → Type 0
IsThere g (outer.Book grammar state) = IsStateOf g grammar state
IsThere g outer.FragmentStart = Unit {0}
IsThere g outer.FragmentContent = Unit {0}
IsThere g outer.AloneStart = Unit {0}
IsThere g outer.AloneFirst = g.schema.known ≡ true → IsStateOf g 1 1
IsThere g outer.AloneOver = g.schema.known ≡ true → IsStateOf g 1 1
IsThere g outer.Ended = Unit {0}

abbrev pub IsThereIn : Setting → Learning → State → Type 0
IsThereIn g l (state.BuiltIn r) = IsRoom l r
IsThereIn g l (state.Informed grammar number empty) = IsStateOf g grammar number × HasForm (state.Informed grammar number empty)

abbrev pub AreThere : Setting → Learning → List Element → Type 0
AreThere g l [] = Unit {0}
AreThere g l (e ∷ es) = IsThereIn g l e.state

-- ---- the start, and where a fragment waits
abbrev pub standing : Job → Config → Standing
standing j c = record { setting = j.setting; bytes = j.bytes; config = c }

abbrev pub first_outer_of : Bool → Bool → Start → Outer
first_outer_of schema is_fragment start.Body = body_outer schema is_fragment
first_outer_of schema is_fragment (start.Fragment byte) = outer.AloneStart

-- behind SC the body is put aside
abbrev pub fragment_in : Bool → Setting → Config → Config
fragment_in true g c = put_aside g c
fragment_in false g c = c

-- either
abbrev pub HandsAny : {T : Type 0} → (T → List Happening → T → Type 0) → (T → Happening → T → Type 0) → Result (Option ℕ) Halt → Standing → Result Given Failure → T → T → Type 0
HandsAny took broke (Ok None) new read before after = Hands took broke (Ok tt) new.config read before after
HandsAny took broke (Ok (Some byte)) new read before after = HandsFragment took broke (Ok byte) new read before after
HandsAny took broke (Err h) new read before after = Hands took broke (Err h) new.config read before after

-- what a call tells whose answer is whether it tells nothing, and which puts what it tells else where it is asked to
abbrev pub told_apart : Bool → Result (Option ℕ) Halt → Result (Option ℕ) Halt
told_apart true seldom = Ok None
told_apart false seldom = seldom

-- ---- what a step needs, and sequential processing keeps
-- what a code tells stands in the tables
abbrev pub StandsIn : Partitions → Telling → Type 0
StandsIn p spelled = Unit {0}
StandsIn p (under uri) = uri < length (uris p)
StandsIn p (known id) = IsName p id

-- the names that a production needs stand in the tables
abbrev pub HasNames : Config → Terminal → Type 0
HasNames c (element t) = StandsIn c.tables t
HasNames c (attribute t v) = StandsIn c.tables t
HasNames c (characters d) = IsName c.tables (innermost c.elements)
HasNames c start_document = Unit {0}
HasNames c end_document = Unit {0}
HasNames c end_element = Unit {0}
HasNames c declaration = Unit {0}
HasNames c self_contained = Unit {0}
HasNames c comment = Unit {0}
HasNames c instruction = Unit {0}
HasNames c document_type = Unit {0}
HasNames c entity = Unit {0}

-- levels that are left were entered
pub record HasLevels (c : Config) : Type 0 where
  pub aside : c.aside ≢ [] → 0 < c.meter.level
  pub inside : has_level c.elements c.outer ≡ true → 0 < c.meter.level

-- there is not much yet, even once the items of a list are added that may still be charged, and what learns stands
pub record HasRoom (c : Config) : Type 0 where
  pub few : NoneLonger (2 ^ 31 - 2) c.tables
  pub roomy : NoneLonger (2 ^ 31 - 2 ^ 28 - 2 + c.meter.used.text) c.tables
  pub learns : CanLearn (room_in c.elements c.outer) c.learned
  pub grammars : length c.learned.grammars < 2 ^ 31

pub record IsSteady (s : Standing) : Type 0 where
  pub there : IsThere s.setting s.config.outer
  pub elements : AreThere s.setting s.config.learned s.config.elements
  pub room : HasRoom s.config
  pub levels : HasLevels s.config
  pub names : (r : Rule) (t : Spot) → code_at (align_of s.setting.options) (rules_of s.setting s.config) (spot_in s.bytes s.config) ≡ Ok (r, t) → HasNames s.config r.on
