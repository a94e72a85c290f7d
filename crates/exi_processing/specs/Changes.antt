-- What an event makes of a configuration: what its state learns, the state that follows, an element opened and closed,
-- a body put aside and taken up again (EXI 1.0, sections 8.4 and 8.5.4).
use Rattle.std.specs.Prelude.{ℕ, zero, suc, ◌+◌, Bool, true, false, List, [], ◌∷◌, Option, Some, None, get_or, if◌then◌else◌}
use Rattle.exi_builtin.specs.declared.learnable.Learned.{Learned}
use Rattle.exi_builtin.specs.declared.learnable.Room.{Room}
use Rattle.exi_builtin.specs.declared.learnable.Room.TheVariants as room
use Rattle.exi_builtin.specs.Learning.{Learning, after_use, grammar_number, is_type, nothing_learned, with_grammar}
use Rattle.exi_meter.specs.Metering.{Metering, without_level}
use Rattle.exi_names.specs.declared.names.NameId.{NameId}
use Rattle.exi_names.specs.declared.names.QName.{QName}
use Rattle.exi_names.specs.Seen.{Value}
use Rattle.exi_names.specs.Seen as value
use Rattle.exi_tables.specs.Partitions.{Partitions, locals, uris}
use Rattle.exi_processing.specs.Configurations.{Body, Config, Setting, first_tables}
use Rattle.exi_processing.specs.Contents.{is_nil, named_type}
pub use Rattle.exi_gram.specs.Globals.{same_texts}
use Rattle.exi_gram.specs.Globals.{element_grammar}
use Rattle.exi_processing.specs.Rules.{Telling, Valuing, by_name, known, spelled, typed, under, untyped}
use Rattle.exi_processing.specs.declared.frames.Element.{Element}
use Rattle.exi_processing.specs.declared.frames.Outer.{Outer}
use Rattle.exi_processing.specs.declared.frames.Outer.TheVariants as outer
use Rattle.exi_processing.specs.declared.frames.State.{State}
use Rattle.exi_processing.specs.declared.frames.State.TheVariants as state

-- ---- learning: built-in states alone do (8.4.2, 8.4.3). By a schema no state asks what a fragment that stands for one element
-- has learned
abbrev pub state_room : State → Option Room
state_room (state.BuiltIn r) = Some r
state_room (state.Informed grammar number empty) = None

abbrev pub outer_room : Outer → Option Room
outer_room (outer.Book grammar number) = None
outer_room outer.FragmentStart = None
outer_room outer.FragmentContent = Some room.Fragment
outer_room outer.AloneStart = None
outer_room outer.AloneFirst = Some room.Fragment
outer_room outer.AloneOver = Some room.Fragment
outer_room outer.Ended = None

abbrev pub room_in : List Element → Outer → Option Room
room_in [] outer = outer_room outer
room_in (e ∷ es) outer = state_room e.state

abbrev pub learned_in : Option Room → Learned → Learning → Learning
learned_in None use_of l = l
learned_in (Some r) use_of l = after_use l r use_of

-- what the state learns by a use
abbrev pub learns : Learned → Config → Config
learns use_of c = record c { learned = learned_in (room_in c.elements c.outer) use_of c.learned }

-- by the use of a name that has bits of its own
abbrev pub learns_name : Telling → Learned → Config → Config
learns_name spelled use_of c = learns use_of c
learns_name (under uri) use_of c = learns use_of c
learns_name (known id) use_of c = c

-- ---- the state that follows
abbrev pub room_at : ℕ → ℕ → Room
room_at number zero = room.StartTag number
room_at number (suc more) = room.Content number

abbrev pub moved_room : ℕ → Room → Room
moved_room to (room.StartTag number) = room_at number to
moved_room to (room.Content number) = room_at number to
moved_room to room.Fragment = room.Fragment

abbrev pub moved_state : ℕ → State → State
moved_state to (state.BuiltIn r) = state.BuiltIn (moved_room to r)
moved_state to (state.Informed grammar number empty) = state.Informed grammar to empty

abbrev pub fragment_at : ℕ → Outer
fragment_at zero = outer.FragmentStart
fragment_at (suc more) = outer.FragmentContent

-- a fragment that stands for one element goes from its start to that element, and from there to its end
abbrev pub moved_outer : ℕ → Outer → Outer
moved_outer to (outer.Book grammar number) = outer.Book grammar to
moved_outer to outer.FragmentStart = fragment_at to
moved_outer to outer.FragmentContent = fragment_at to
moved_outer to outer.AloneStart = outer.AloneFirst
moved_outer to outer.AloneFirst = outer.AloneOver
moved_outer to outer.AloneOver = outer.AloneOver
moved_outer to outer.Ended = outer.Ended

abbrev pub moved_elements : ℕ → List Element → List Element
moved_elements to [] = []
moved_elements to (e ∷ es) = record e { state = moved_state to e.state } ∷ es

abbrev pub outer_behind : ℕ → List Element → Outer → Outer
outer_behind to [] outer = moved_outer to outer
outer_behind to (e ∷ es) outer = outer

-- that of the innermost element, and without one that of the document or fragment
abbrev pub moves : ℕ → Config → Config
moves to c = record c { elements = moved_elements to c.elements; outer = outer_behind to c.elements c.outer }

-- ---- what an attribute does beside (8.4.3, 8.5.4.4)
-- the innermost element goes on in this state
abbrev pub restated : State → List Element → List Element
restated s [] = []
restated s (e ∷ es) = record e { state = s } ∷ es

-- the empty form of a grammar, from its start: it stands behind the full form, and its own is itself (own)
abbrev pub emptied_state : State → State
emptied_state (state.BuiltIn r) = state.BuiltIn r
emptied_state (state.Informed grammar number true) = state.Informed grammar 0 true
emptied_state (state.Informed grammar number false) = state.Informed (grammar + 1) 0 true

abbrev pub emptied_elements : List Element → List Element
emptied_elements [] = []
emptied_elements (e ∷ es) = record e { state = emptied_state e.state } ∷ es

-- what comes of an attribute: its production leads on; its element goes on with a type's grammar, or with its own in its
-- empty form; or the state stays
pub data Effect : Type 0 where
  leads : Effect
  retyped : ℕ → Effect
  emptied : Effect
  stays : Effect

abbrev pub effected : Effect → ℕ → Config → Config
effected leads to c = moves to c
effected (retyped grammar) to c = record c { elements = restated (state.Informed grammar 0 false) c.elements }
effected emptied to c = record c { elements = emptied_elements c.elements }
effected stays to c = c

-- xsi:type in a built-in grammar, or in one of the schema; a type that is not there leaves the state as it is
abbrev pub type_effect : Effect → Option ℕ → Effect
type_effect otherwise None = otherwise
type_effect otherwise (Some grammar) = retyped grammar

-- xsi:nil
abbrev pub nil_effect : Value → Effect
nil_effect (value.boolean true digit) = emptied
nil_effect v = stays

abbrev pub effect_of : Setting → Valuing → NameId → Value → Effect
effect_of g untyped name found = if is_type name then type_effect leads (named_type g found) else leads
effect_of g (typed r) name found = leads
effect_of g by_name name found = if is_type name then type_effect stays (named_type g found) else (if is_nil name then nil_effect found else leads)

-- ---- elements
-- by which grammar an element is opened: that of its production, else that of the global element of its name, and else the
-- built-in grammar of the name
abbrev pub opener : Setting → QName → Option ℕ → Option ℕ
opener g name (Some grammar) = Some grammar
opener g name None = element_grammar g.schema.globals name

abbrev pub inner_state : Learning → NameId → Option ℕ → State
inner_state l name None = state.BuiltIn (room.StartTag (grammar_number l name))
inner_state l name (Some grammar) = state.Informed grammar 0 false

abbrev pub with_inner : Learning → NameId → Option ℕ → Learning
with_inner l name None = with_grammar l name
with_inner l name (Some grammar) = l

-- an element of this name is opened, by this grammar or the built-in one of the name
abbrev pub opened : NameId → Option ℕ → Config → Config
opened name inner c = record c {
  elements = record { name = name; state = inner_state c.learned name inner } ∷ c.elements;
  learned = with_inner c.learned name inner;
}

abbrev pub enclosing : List Element → List Element
enclosing [] = []
enclosing (e ∷ es) = es

abbrev pub is_alone : Outer → Bool
is_alone (outer.Book grammar number) = false
is_alone outer.FragmentStart = false
is_alone outer.FragmentContent = false
is_alone outer.AloneStart = true
is_alone outer.AloneFirst = true
is_alone outer.AloneOver = true
is_alone outer.Ended = false

-- the element that a fragment stands for has entered no level, and leaves none
abbrev pub has_level : List Element → Outer → Bool
has_level [] outer = false
has_level (e ∷ []) outer = if is_alone outer then false else true
has_level (e ∷ f ∷ es) outer = true

abbrev pub left_level : Bool → Metering → Metering
left_level true m = without_level m
left_level false m = m

-- the innermost element is closed
abbrev pub closed : Config → Config
closed c = record c { elements = enclosing c.elements; meter = left_level (has_level c.elements c.outer) c.meter }

-- the name under which characters stand
abbrev pub innermost : List Element → NameId
innermost [] = record { uri = 0; local = 0 }
innermost (e ∷ es) = e.name

-- ---- self-contained elements (8.4.3)
abbrev pub texts_of : Partitions → NameId → QName
texts_of p name = record { uri = get_or (uris p) name.uri []; local = get_or (locals p name.uri) name.local []; prefix = None }

-- the body is put aside, and a fragment begins with the first tables and nothing learned
abbrev pub put_aside : Setting → Config → Config
put_aside g c = record c {
  tables = first_tables g;
  elements = [];
  outer = outer.AloneStart;
  learned = nothing_learned;
  aside = record { tables = c.tables; learned = c.learned; elements = c.elements; outer = c.outer; name = texts_of c.tables (innermost c.elements) } ∷ c.aside;
}

-- behind a fragment's end, by what was put aside: the outer element has ended, and leaves its level. Where reading
-- began at the fragment, nothing follows
abbrev pub resumed : List Body → Config → Config
resumed [] c = record c { outer = outer.Ended }
resumed (b ∷ bs) c = record c { meter = without_level c.meter; tables = b.tables; elements = enclosing b.elements; outer = b.outer; learned = b.learned; aside = bs }

-- the first element of a fragment at which reading began is remembered
abbrev pub root_in : List Body → QName → Option QName → Option QName
root_in [] name root = Some name
root_in (b ∷ bs) name root = root

abbrev pub rooted : QName → Config → Config
rooted name c = record c { root = root_in c.aside name c.root }
