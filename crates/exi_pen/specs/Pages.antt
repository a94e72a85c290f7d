-- How a writer writes one event: in its own words, and in parts. The parts together are the one event of the definition.
use Rattle.std.specs.Prelude.{◌≡◌, ◌<◌, ◌+◌, ◌*◌, ◌&&◌, not, ℕ, Bool, true, false, List, ◌++◌, length, Option, Some, None, Result, Ok, Err, if◌then◌else◌, ◌^◌}
use Rattle.std.specs.Option.{is_none}
use Rattle.exi_bits.specs.declared.fault.Kind.{Kind}
use Rattle.exi_builtin.specs.declared.learnable.Learned.{Learned}
use Rattle.exi_builtin.specs.declared.learnable.Learned.TheVariants as used
use Rattle.exi_meter.specs.Metering.{Bounds, Metering, with_tally, without_level}
use Rattle.exi_meter.specs.declared.tally.Tally.{Tally}
use Rattle.exi_names.specs.declared.names.NameId.{NameId}
use Rattle.exi_names.specs.declared.names.QName.{QName}
use Rattle.exi_names.specs.Events.{Happening}
use Rattle.exi_tables.specs.Partitions.{Partitions}
use Rattle.exi_processing.specs.Configurations.{Body, Config, IsSetting, Setting, first_config, rules_of}
use Rattle.exi_processing.specs.declared.start.Start.{Start}
use Rattle.exi_processing.specs.declared.start.Start.TheVariants as start
use Rattle.exi_processing.specs.Changes.{Effect, closed, effect_of, effected, enclosing, learns, moves, opened, opener, put_aside, room_in}
use Rattle.exi_processing.specs.Handing.{AreThere, HasLevels, HasRoom, IsThere, rule_in, CanLearn, learned_by, root_at}
use Rattle.exi_processing.specs.Sound.{FitsIn, IsSound}
use Rattle.exi_processing.specs.Plans.{Alone, Plan, alone_in, ended_in, is_event, no_element, plan_of}
use Rattle.exi_processing.specs.Rules.{Rule, Telling, Valuing}
use Rattle.exi_processing.specs.declared.frames.Outer.TheVariants as outer
use Rattle.exi_processing.specs.declared.rule.Content.{Content}
use Rattle.exi_processing.specs.declared.rule.Content.TheVariants as content
use Rattle.exi_processing.specs.declared.rule.Rule.{Rule as Kept}
use Rattle.exi_processing.specs.declared.rule.Telling.{Telling as Told}
use Rattle.exi_processing.specs.declared.rule.Valuing.TheVariants as valuing
use Rattle.exi_typed.specs.Strings.{Named}
use Rattle.exi_typed.specs.Written.{after_string, string_bits}
use Rattle.exi_writing.specs.Pieces.{Piece, can_be_spelled}
use Rattle.exi_writing.specs.OneEvent.{Refused, Written, behind_code, by_code, chosen, followed, limit, matches, not_derived, padding, written_by}
use Rattle.exi_toll.specs.declared.stop.PutStop.{PutStop}
use Rattle.exi_toll.specs.declared.stop.PutStop.TheVariants as stop
use Rattle.exi_choice.specs.Choices.{IsFound, way_parts}
use Rattle.exi_choice.specs.Fitting.{Having, fit_in, fitted, of_attribute, of_characters, value_in}
use Rattle.exi_choice.specs.Wanted.{Seeking, of_kind, place_told, seeking, suits}
use Rattle.exi_names.specs.Seen.{Value}
use Rattle.exi_names.specs.StartTables.{IsStart}
use Rattle.exi_choice.specs.declared.choice.Choice.{Choice}
use Rattle.exi_choice.specs.declared.choice.Way.{Way}
use Rattle.exi_choice.specs.declared.fit.Fit.TheVariants as fit
use Rattle.exi_gram.specs.Codes.{code_bits}
use Rattle.exi_gram.specs.Laws.{codes}
use Rattle.exi_gram.specs.Switches.{align_of, prefixes}
use Rattle.exi_pen.specs.declared.pen.Begun.{Begun}
use Rattle.exi_toll.specs.Charges.{Charged, charge, charge_event, charge_level, is_within}

-- what a writer stands for: what is written by, the bits that are written, and how far
pub record Page : Type 0 where
  pub setting : Setting
  pub bits : List Bool
  pub config : Config

-- more bits are written, and nothing else is changed
abbrev pub with_bits : Page → List Bool → Page
with_bits p text = record { setting = p.setting; bits = p.bits ++ text; config = record p.config { place = length (p.bits ++ text) } }

abbrev pub fragment_page : Page → Page
fragment_page p = record p { config = put_aside p.setting p.config }

-- an event by the production that is chosen for it
abbrev pub by_chosen : Setting → Config → Happening → Result Written Refused
by_chosen g c e = by_code g c e (chosen g c e)

-- ---- the code of an event
abbrev pub code_behind : Config → List Bool → Config
code_behind c code = record c { place = c.place + length code }

-- the production in an event's place, behind its code
abbrev pub tried : Setting → Config → Rule → List Bool → Happening → Result Written Refused
tried g c r code e = if matches g c e r then behind_code code (followed (plan_of g c r) (code_behind c code) (written_by g c r e c.tables)) else Err not_derived

pub record MayStand (p : Plan) : Type 0 where
  pub free : p.barred ≡ None
  pub placed : p.misplaced ≡ None

-- in the place of a fragment's element nothing else may stand
abbrev pub no_element_for : Content → Alone → Option Kind
no_element_for (content.Element own) a = None
no_element_for wanted a = no_element a

-- the event is one of those for which this is wanted: the same productions suit both
abbrev pub IsWanted : Setting → Partitions → Seeking → Happening → Type 0
IsWanted g p wanted e = (r : Rule) → suits g (seeking p e) r ≡ suits g wanted r

-- the production was found, and its code written, for each such event
pub record IsBegun (wanted : Seeking) (old new : Page) (toll owed : Charged) (rule : Kept) : Type 0 where
  pub code : List Bool
  pub is : (e : Happening) → IsWanted old.setting old.config.tables wanted e → by_chosen old.setting old.config e ≡ tried old.setting old.config (rule_in rule) code e
  pub on : suits old.setting wanted (rule_in rule) ≡ true
  pub stands : MayStand (plan_of old.setting old.config (rule_in rule))
  pub fits : FitsIn old.setting old.config.tables old.config.outer old.config.elements (rule_in rule).on rule.to
  pub element : no_element_for wanted.on (alone_in old.config.elements old.config.outer) ≡ None
  pub page : new ≡ record { setting = old.setting; bits = old.bits ++ code; config = code_behind old.config code }
  pub charged : owed ≡ charge_level (plan_of old.setting old.config (rule_in rule)).entered (charge_event (plan_of old.setting old.config (rule_in rule)).counted toll)

-- what is written of the value is what the production writes of it
pub record IsFitted (wanted : Seeking) (old : Page) (begun : Begun) : Type 0 where
  pub value : fitted (value_in wanted.having) (Some begun.value) ≡ fit_in old.setting.schema (rule_in begun.rule).on wanted.having

-- no production stands for an event for which this is wanted; or memory was refused
abbrev pub IsNotBegun : Seeking → PutStop → Page → Type 0
IsNotBegun wanted stop.NotDerived old = (e : Happening) → IsWanted old.setting old.config.tables wanted e → by_chosen old.setting old.config e ≡ Err not_derived
IsNotBegun wanted (stop.Limit k) old = ⊥
IsNotBegun wanted stop.Memory old = Unit {0}

abbrev pub Begins : Seeking → Result Begun PutStop → Page → Page → Charged → Charged → Type 0
Begins wanted (Ok begun) old new toll charged = IsBegun wanted old new toll charged begun.rule × IsFitted wanted old begun
Begins wanted (Err stopped) old new toll charged = IsNotBegun wanted stopped old

-- an event without a value
abbrev pub BeginsKind : Content → Result Kept PutStop → Page → Page → Charged → Charged → Type 0
BeginsKind on (Ok rule) old new toll charged = IsBegun (of_kind on) old new toll charged rule
BeginsKind on (Err stopped) old new toll charged = IsNotBegun (of_kind on) stopped old

-- an attribute, of whose name a code can tell so much
abbrev pub attribute_wanted : Told → QName → Value → Seeking
attribute_wanted told n v = record { on = content.Attribute told valuing.Untyped; having = of_attribute (place_told told) n v }

abbrev pub characters_wanted : Value → Seeking
characters_wanted v = record { on = content.Characters; having = of_characters v }

-- ---- what stands behind the code
-- more bits are written, and these tables stand
abbrev pub put_page : Page → List Bool → Partitions → Page
put_page p text tables = record { setting = p.setting; bits = p.bits ++ text; config = record p.config { place = length (p.bits ++ text); tables = tables } }

-- it was written, and its units are charged; or it has no spelling, and the meter is as it was; or memory was refused
abbrev pub PutsIn : {A X : Type 0} → Result A PutStop → Option (Piece X) → Page → Page → Charged → Charged → Type 0
PutsIn {A} {X} (Ok a) w old new toll charged = (piece : Piece X) × (w ≡ Some piece) × (new ≡ put_page old piece.bits piece.tables) × (charged ≡ charge piece.units toll)
PutsIn (Err stop.NotDerived) w old new toll charged = (w ≡ None) × (new.config.meter ≡ old.config.meter)
PutsIn (Err (stop.Limit k)) w old new toll charged = ⊥
PutsIn (Err stop.Memory) w old new toll charged = Unit {0}

-- the last of an event: it is written as far as no charge passes its limit
pub record IsPutLast {X : Type 0} (piece : Piece X) (old new : Page) (toll charged : Charged) : Type 0 where
  pub text : List Bool
  pub tables : Partitions
  pub page : new ≡ put_page old text tables
  pub charges : charged ≡ charge piece.units toll
  pub written : is_within charged ≡ true → (text ≡ piece.bits) × (tables ≡ piece.tables)

abbrev pub PutsLast : {A X : Type 0} → Result A PutStop → Option (Piece X) → Page → Page → Charged → Charged → Type 0
PutsLast {A} {X} (Ok a) w old new toll charged = (piece : Piece X) × (w ≡ Some piece) × IsPutLast piece old new toll charged
PutsLast (Err stop.NotDerived) w old new toll charged = (w ≡ None) × (new.config.meter ≡ old.config.meter)
PutsLast (Err (stop.Limit k)) w old new toll charged = ⊥
PutsLast (Err stop.Memory) w old new toll charged = Unit {0}

-- a string is written under a name
abbrev pub text_page : NameId → List ℕ → Page → Page
text_page name x p = put_page p (string_bits None (align_of p.setting.options) p.config.tables name x) (after_string p.config.tables name x)

abbrev pub id_of : Option (Piece Named) → NameId → Type 0
id_of None id = Unit {0}
id_of (Some piece) id = id ≡ piece.item.id

-- ---- an event
abbrev pub page_behind : Page → Written → Page
page_behind p w = record { setting = p.setting; bits = p.bits ++ w.bits; config = w.given.1 }

-- it was written, exactly so; or no production stands for it, and nothing is charged; or it passes a limit, and the charges
-- before stand; or memory was refused
abbrev pub Writes : {X : Type 0} → Result X PutStop → Page → Page → Result Written Refused → Type 0
Writes (Ok x) old new w = (v : Written) × (w ≡ Ok v) × (new ≡ page_behind old v)
Writes (Err stop.NotDerived) old new w = (w ≡ Err not_derived) × (new.config.meter ≡ old.config.meter)
Writes (Err (stop.Limit k)) old new w = w ≡ Err (limit k new.config.meter)
Writes (Err stop.Memory) old new w = Unit {0}

-- SC: the body is to be put aside
abbrev pub WritesFragment : {X : Type 0} → Result X PutStop → Page → Page → Result Written Refused → Type 0
WritesFragment (Ok x) old new w = (v : Written) × (w ≡ Ok v) × (fragment_page new ≡ page_behind old v)
WritesFragment (Err stop.NotDerived) old new w = (w ≡ Err not_derived) × (new.config.meter ≡ old.config.meter)
WritesFragment (Err (stop.Limit k)) old new w = w ≡ Err (limit k new.config.meter)
WritesFragment (Err stop.Memory) old new w = Unit {0}

-- ---- by the production for the event alone
-- behind the code of a way
abbrev pub way_page : Page → Way → Page
way_page p w = with_bits p (code_bits (align_of p.setting.options) (codes (rules_of p.setting p.config)) (way_parts p.setting w))

-- it is found for each such event whose value is written in it as it is
abbrev pub IsSpecial : Page → Content → Choice → Type 0
IsSpecial p wanted choice = (h : Having) → fit_in p.setting.schema (rule_in choice.rule).on h ≡ Some (value_in h)
    → IsFound p.setting p.config.learned (record { on = wanted; having = h }) (rules_of p.setting p.config) (record { choice = choice; value = fit.Own })

-- the texts of a name have a spelling, and no prefix is to be written
abbrev pub is_whole : Page → QName → Bool
is_whole p n = is_none n.prefix && (not (prefixes p.setting.options) && (can_be_spelled n.uri && can_be_spelled n.local))

-- ---- what an event needs, and writing keeps
pub record IsReady (p : Page) : Type 0 where
  pub place : p.config.place ≡ length p.bits
  pub there : IsThere p.setting p.config.outer
  pub elements : AreThere p.setting p.config.learned p.config.elements
  pub room : HasRoom p.config
  pub levels : HasLevels p.config
  pub sound : IsSound p.setting p.config
  pub is_setting : IsSetting p.setting
  pub names : IsStart p.setting.schema.names

-- ---- the start and the ends
-- a fragment begins at a whole byte
abbrev pub StartsAt : Start → ℕ → Type 0
StartsAt start.Body bits = Unit {0}
StartsAt (start.Fragment byte) bits = 8 * byte ≡ bits

abbrev pub first_page : Setting → Start → Bounds → List Bool → Page
first_page g s limits head = record { setting = g; bits = head; config = first_config g (length head) s limits }

-- behind ED, the bits of a fragment filled up to a whole byte
abbrev pub ended_bits : Alone → List Bool → List Bool
ended_bits a text = text ++ padding (not (is_event a)) (length text)

abbrev pub ended_page : Alone → Page → Page
ended_page a p = record { setting = p.setting; bits = ended_bits a p.bits; config = record (ended_in a p.config) { place = length (ended_bits a p.bits) } }

abbrev pub resumed_page : Body → Page → Page
resumed_page b p = record p { config = record p.config { meter = without_level p.config.meter; tables = b.tables; elements = enclosing b.elements; outer = b.outer; learned = b.learned } }

-- behind a refusal, where nothing has ended: an event for which no production stands charges nothing
abbrev pub refused_meter : PutStop → Metering → Metering → Metering
refused_meter stop.NotDerived before charged = before
refused_meter (stop.Limit k) before charged = charged
refused_meter stop.Memory before charged = charged

abbrev pub refused_page : PutStop → Metering → Page → Page
refused_page s before p = record p { config = record p.config { outer = outer.AloneStart; meter = refused_meter s before p.config.meter } }

-- behind a fragment that was written apart
abbrev pub spliced_page : List Bool → Tally → Page → Page
spliced_page text tally p = record { setting = p.setting; bits = p.bits ++ text; config = record p.config { place = length (p.bits ++ text); meter = without_level (with_tally p.config.meter tally); elements = enclosing p.config.elements; after_start = false } }

-- ---- how an event ends
-- there is not much yet, and what learns stands
pub record CanGrow (c : Config) : Type 0 where
  pub learns : CanLearn (room_in c.elements c.outer) c.learned
  pub grammars : length c.learned.grammars < 2 ^ 31

-- what is charged enters no level
abbrev pub KeepsLevel : Metering → Charged → Type 0
KeepsLevel old (Ok m) = m.level ≡ old.level
KeepsLevel old (Err why) = Unit {0}

-- the charges are made, and this page stands; or one passes its limit, and those before stand; or memory was refused
abbrev pub Ends : Result (Unit {0}) PutStop → Page → Charged → (Metering → Page) → Type 0
Ends (Ok x) new toll next = (m : Metering) × (toll ≡ Ok m) × (new ≡ next m)
Ends (Err stop.NotDerived) new toll next = ⊥
Ends (Err (stop.Limit k)) new toll next = toll ≡ Err (limit k new.config.meter)
Ends (Err stop.Memory) new toll next = Unit {0}

abbrev pub at_config : Page → Config → Page
at_config p c = record { setting = p.setting; bits = p.bits; config = c }

-- this is charged, and the event is no SE
abbrev pub paid_config : Metering → Config → Config
paid_config m c = record c { meter = m; after_start = false }

abbrev pub paid_page : Page → Metering → Page
paid_page p m = at_config p (paid_config m p.config)

-- the state that follows
abbrev pub moved_page : ℕ → Page → Metering → Page
moved_page to p m = at_config p (moves to (paid_config m p.config))

-- the state learns by the use of a name that is told so
abbrev pub learned_config : Telling → Learned → Config → Config
learned_config t u c = record c { learned = learned_by t (room_in c.elements c.outer) u c.learned }

abbrev pub learned_page : Telling → Learned → ℕ → Page → Metering → Page
learned_page t u to p m = at_config p (moves to (learned_config t u (paid_config m p.config)))

-- what comes of an attribute
abbrev pub effected_page : Effect → ℕ → Page → Page
effected_page e to p = at_config p (effected e to p.config)

-- the state learns by the use of an attribute's name, and its element goes on by the value
abbrev pub attribute_page : Telling → Valuing → ℕ → NameId → Value → Page → Metering → Page
attribute_page t v to id x p m = at_config p (effected (effect_of p.setting v id x) to (learned_config t (used.At id) (paid_config m p.config)))

-- the innermost element has ended
abbrev pub closed_page : Page → Metering → Page
closed_page p m = at_config p (closed (learns used.Ee (paid_config m p.config)))

-- an element is opened
abbrev pub rooted_config : QName → Config → Config
rooted_config name c = record c { root = root_at (alone_in c.elements c.outer) c.aside name c.root }

abbrev pub opened_page : Telling → ℕ → Option ℕ → Named → Page → Metering → Page
opened_page t to inner n p m = at_config p (record (opened n.id (opener p.setting n.name inner) (moves to (learned_config t (used.Se n.id) (rooted_config n.name (paid_config m p.config))))) { after_start = is_event (alone_in p.config.elements p.config.outer) })

-- an element is opened inside another, by a code that told its name
abbrev pub opened_here : Setting → Rule → NameId → QName → Config → Config
opened_here g r id name c = record (opened id (opener g name r.inner) (moves r.to c)) { after_start = true }

-- behind ED
abbrev pub ending_page : Page → Metering → Page
ending_page p m = ended_page (alone_in p.config.elements p.config.outer) (at_config p (paid_config m p.config))

-- behind SC, up to a whole byte
abbrev pub padded_page : Page → Metering → Page
padded_page p m = record { setting = p.setting; bits = p.bits ++ padding true (length p.bits); config = record (paid_config m p.config) { place = length (p.bits ++ padding true (length p.bits)) } }
