-- Where the reading of a body stands between two events (EXI 1.0, sections 6, 8.4 and 8.5.4). Reader and writer share
-- it: it says where in the bits it stands, and not what the bits are.
use Rattle.std.specs.Prelude.{ℕ, ◌*◌, Bool, true, false, List, [], ◌∷◌, Option, None, if◌then◌else◌}
use Rattle.exi_bits.specs.Bits.{Spot}
use Rattle.exi_builtin.specs.declared.learnable.Room.{Room}
use Rattle.exi_builtin.specs.declared.learnable.Room.TheVariants as room
use Rattle.exi_builtin.specs.Learning.{Learning, nothing_learned, rules}
use Rattle.exi_gram.specs.Books.{Contents, IsBook, state_at}
use Rattle.exi_gram.specs.Codes.{Productions, mapped}
use Rattle.exi_gram.specs.Schemas.{IsSchema}
use Rattle.exi_gram.specs.Switches.{fragment}
use Rattle.exi_meter.specs.Metering.{Bounds, Metering, nothing_used}
use Rattle.exi_names.specs.declared.names.QName.{QName}
use Rattle.exi_tables.specs.Partitions.{Partitions, first_partitions}
use Rattle.exi_typed.specs.ReadStates.{ReadState}
use Rattle.exi_processing.specs.Rules.{Rule, book_rule, built_in_rule, fragment_start}
use Rattle.exi_processing.specs.declared.frames.Element.{Element}
use Rattle.exi_processing.specs.declared.frames.Outer.{Outer}
use Rattle.exi_processing.specs.declared.frames.Outer.TheVariants as outer
use Rattle.exi_processing.specs.declared.frames.State.{State}
use Rattle.exi_processing.specs.declared.frames.State.TheVariants as state
use Rattle.exi_processing.specs.declared.start.Start.{Start}
use Rattle.exi_processing.specs.declared.start.Start.TheVariants as start

-- what a stream is read by: a book, which has its options and the grammars of its schema
abbrev pub Setting : Type 0
Setting = Contents

-- what holds of every book and of its schema
pub record IsSetting (g : Setting) : Type 0 where
  pub book : IsBook g
  pub schema : IsSchema g.schema

-- the string tables at the start
abbrev pub first_tables : Setting → Partitions
first_tables g = first_partitions g.schema.names g.options.most g.options.capacity

-- what an enclosing body puts aside while a self-contained fragment is read, whose element has this name
pub record Body : Type 0 where
  pub tables : Partitions
  pub learned : Learning
  pub elements : List Element
  pub outer : Outer
  pub name : QName

pub record Config : Type 0 where
  pub start : Start
  -- the next bit
  pub place : ℕ
  pub meter : Metering
  pub tables : Partitions
  -- the open elements, the innermost first
  pub elements : List Element
  pub outer : Outer
  -- what the built-in grammars have learned
  pub learned : Learning
  -- the event given last is an SE
  pub after_start : Bool
  -- the name of the first element of a fragment at which reading began, once it is read; of a body there is none
  pub root : Option QName
  -- what enclosing bodies put aside, the innermost first
  pub aside : List Body

-- ---- the first configuration
-- whether there is a schema, and whether the body is a fragment: by a schema both are grammars of the book
abbrev pub body_outer : Bool → Bool → Outer
body_outer schema false = outer.Book 0 0
body_outer true true = outer.Book 1 0
body_outer false true = outer.FragmentStart

abbrev pub first_outer : Setting → Start → Outer
first_outer g start.Body = body_outer g.schema.known (fragment g.options)
first_outer g (start.Fragment byte) = outer.AloneStart

-- where reading begins, of a body at a bit
abbrev pub first_place : ℕ → Start → ℕ
first_place body start.Body = body
first_place body (start.Fragment byte) = 8 * byte

-- the first tables, nothing learned, nothing used
abbrev pub first_config : Setting → ℕ → Start → Bounds → Config
first_config g body start limits = record {
  start = start;
  place = first_place body start;
  meter = nothing_used limits;
  tables = first_tables g;
  elements = [];
  outer = first_outer g start;
  learned = nothing_learned;
  after_start = false;
  root = None;
  aside = [];
}

-- ---- the productions of the state
abbrev pub built_in : Setting → Learning → Room → Productions Rule
built_in g l r = mapped built_in_rule (rules g.options l r)

abbrev pub in_book : Setting → ℕ → ℕ → Productions Rule
in_book g grammar state = mapped book_rule (state_at g grammar state)

abbrev pub element_rules : Setting → Learning → State → Productions Rule
element_rules g l (state.BuiltIn r) = built_in g l r
element_rules g l (state.Informed grammar number empty) = in_book g grammar number

-- the content of a fragment that stands for one element is that of any fragment: by a schema its Fragment grammar's
abbrev pub alone_rules : Setting → Learning → Productions Rule
alone_rules g l = if g.schema.known then in_book g 1 1 else built_in g l room.Fragment

abbrev pub outer_rules : Setting → Learning → Outer → Productions Rule
outer_rules g l (outer.Book grammar number) = in_book g grammar number
outer_rules g l outer.FragmentStart = fragment_start
outer_rules g l outer.FragmentContent = built_in g l room.Fragment
outer_rules g l outer.AloneStart = fragment_start
outer_rules g l outer.AloneFirst = alone_rules g l
outer_rules g l outer.AloneOver = alone_rules g l
outer_rules g l outer.Ended = record { firsts = []; seconds = [] }

abbrev pub rules_in : Setting → Learning → List Element → Outer → Productions Rule
rules_in g l [] outer = outer_rules g l outer
rules_in g l (e ∷ es) outer = element_rules g l e.state

-- those of the innermost element, and without one those of the document or fragment
abbrev pub rules_of : Setting → Config → Productions Rule
rules_of g c = rules_in g c.learned c.elements c.outer

-- ---- with the bits
abbrev pub spot_in : List ℕ → Config → Spot
spot_in bytes c = record { bytes = bytes; place = c.place }

abbrev pub read_state_in : List ℕ → Metering → Config → ReadState
read_state_in bytes meter c = record { spot = spot_in bytes c; context = record { meter = meter; tables = c.tables } }

-- reading came so far
abbrev pub reached : ReadState → Config → Config
reached k c = record c { place = k.spot.place; meter = k.context.meter; tables = k.context.tables }
