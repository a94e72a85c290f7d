-- What is read of a list that was written is the list that was given, event by event, but for what the options leave out.
use Rattle.std.specs.Prelude.{◌≡◌, ℕ, Bool, true, false, List, [], ◌∷◌, Option, Some, None, Ok}
use Rattle.exi_gram.specs.declared.options.Options.{Options}
use Rattle.exi_gram.specs.Books.{IsPlainBook}
use Rattle.exi_gram.specs.Codes.{Coded}
use Rattle.exi_lexical.specs.Values.{value}
use Rattle.exi_meter.specs.Metering.{Bounds}
use Rattle.exi_names.specs.Datatypes.{Representation}
use Rattle.exi_names.specs.Events.{Happening}
use Rattle.exi_names.specs.Events as event
use Rattle.exi_names.specs.Seen.{Value}
use Rattle.exi_names.specs.Seen as shape
use Rattle.exi_processing.specs.Configurations.{Config, Setting, first_config}
use Rattle.exi_processing.specs.Contents.{represented_by}
use Rattle.exi_processing.specs.Plans.{alone_in, is_event}
use Rattle.exi_processing.specs.Rules.{Rule, Terminal, attribute, characters}
use Rattle.exi_processing.specs.Runs.{events_of}
use Rattle.exi_processing.specs.declared.start.Start.TheVariants as start
use Rattle.exi_tables.specs.Partitions.{Partitions}
use Rattle.exi_typed.specs.Strings.{Named}
use Rattle.exi_writing.specs.Contents.{text_of, told_name}
use Rattle.exi_writing.specs.OneEvent.{Written, chosen, written}
use Rattle.exi_writing.specs.Pieces.{Piece}
use Rattle.exi_writing.specs.Pruned.{pruned}
use Rattle.exi_writing.specs.Runs.{Run, body, put}

-- ---- values (EXI 1.0, section 7.1)
-- the second is the value that the canonical text of the first has under a datatype
abbrev pub IsValueOf : Representation → Value → Value → Type 0
IsValueOf r v u = (t : List ℕ) × (text_of v ≡ Some t) × (value r t ≡ Some u)

-- the datatype under which a production has the value of an event: that of characters is its own, and that of an attribute goes by
-- its name, as it is told
abbrev pub IsUnder : Setting → Partitions → Terminal → Happening → Representation → Type 0
IsUnder g p (attribute t v) (event.at n x) r = (name : Piece Named) × (told_name g t n p ≡ Some name) × (r ≡ represented_by g v name.item)
IsUnder g p (characters d) e r = r ≡ d
IsUnder g p t e r = ⊥

-- the value under that datatype
abbrev pub IsTypedBy : Setting → Partitions → Terminal → Happening → Value → Value → Type 0
IsTypedBy g p t e v u = (r : Representation) × IsUnder g p t e r × IsValueOf r v u

-- and under that of the production that is chosen for the event
abbrev pub IsTyped : Setting → Config → Happening → Value → Value → Type 0
IsTyped g c e v u = (x : Coded Rule) × (chosen g c e ≡ Some x) × IsTypedBy g c.tables x.item.on e v u

-- the second is the canonical text of the first, as the datatype of strings has it
abbrev pub IsText : Value → Value → Type 0
IsText v u = (t : List ℕ) × (text_of v ≡ Some t) × (u ≡ shape.text t)

-- a name, which xsi:type has, stays the name; for any other value a value stands that is in this relation to it
abbrev pub IsSameValue : (Value → Value → Type 0) → Value → Value → Type 0
IsSameValue Stands (shape.name n) u = u ≡ shape.name n
IsSameValue Stands v u = Stands v u

-- ---- events
-- of the event given, the event read: with the value that stands for its own; and SC tells the byte at which its fragment
-- begins, whatever byte was given
abbrev pub IsSame : (Value → Value → Type 0) → Happening → Happening → Type 0
IsSame Stands event.sd d = d ≡ event.sd
IsSame Stands event.ed d = d ≡ event.ed
IsSame Stands (event.se n) d = d ≡ event.se n
IsSame Stands event.ee d = d ≡ event.ee
IsSame Stands (event.at n v) d = (u : Value) × IsSameValue Stands v u × (d ≡ event.at n u)
IsSame Stands (event.ch v) d = (u : Value) × Stands v u × (d ≡ event.ch u)
IsSame Stands (event.ns uri prefix own) d = d ≡ event.ns uri prefix own
IsSame Stands (event.sc byte) d = (place : ℕ) × (d ≡ event.sc place)
IsSame Stands (event.cm t) d = d ≡ event.cm t
IsSame Stands (event.pi target t) d = d ≡ event.pi target t
IsSame Stands (event.dt n public system t) d = d ≡ event.dt n public system t
IsSame Stands (event.er n) d = d ≡ event.er n

-- one by one, each value under its datatype in the state in which it was written
abbrev pub AreSame : Setting → Config → List Happening → List Happening → Type 0
AreSame g c [] ds = ds ≡ []
AreSame g c (e ∷ es) [] = ⊥
AreSame g c (e ∷ es) (d ∷ ds) = IsSame (IsTyped g c e) e d × (r : Run) × (put g c e ≡ Ok r) × AreSame g r.last es ds

-- one by one, each value as its text
abbrev pub AreSameText : List Happening → List Happening → Type 0
AreSameText [] ds = ds ≡ []
AreSameText (e ∷ es) [] = ⊥
AreSameText (e ∷ es) (d ∷ ds) = IsSame IsText e d × AreSameText es ds

-- ---- what the options leave of a list
abbrev pub kept_before : Option Happening → List Happening → List Happening
kept_before None es = es
kept_before (Some e) es = e ∷ es

abbrev pub pruned_list : Options → List Happening → List Happening
pruned_list o [] = []
pruned_list o (e ∷ es) = kept_before (pruned o e) (pruned_list o es)

-- ---- the laws
abbrev pub IsSeen : (Value → Value → Type 0) → Happening → Option Happening → Type 0
IsSeen Stands e None = ⊥
IsSeen Stands e (Some d) = IsSame Stands e d

-- what a fragment that stands for one element has of its own gives none
abbrev pub SeenWhere : (Value → Value → Type 0) → Bool → Happening → Option Happening → Type 0
SeenWhere Stands true e o = IsSeen Stands e o
SeenWhere Stands false e o = o ≡ None

-- one event that is written is read as the same event, with the value that its canonical text has under its datatype
abbrev pub OneIsSame : Type 0
OneIsSame = (g : Setting) (c : Config) (e : Happening) (w : Written) → written g c e ≡ Ok w → SeenWhere (IsTyped g c e) (is_event (alone_in c.elements c.outer)) e w.given.0

-- and of a list to its end, what is read is what was given and the options left
abbrev pub ListIsSame : Type 0
ListIsSame = (g : Setting) (bits : ℕ) (limits : Bounds) (es : List Happening) (r : Run) → body g bits limits es ≡ Ok r → AreSame g (first_config g bits start.Body limits) (pruned_list g.options es) (events_of r.events)

-- one value at most stands for a value so
abbrev pub TypedIsOne : Type 0
TypedIsOne = (g : Setting) (c : Config) (e : Happening) (v u w : Value) → IsTyped g c e v u → IsTyped g c e v w → u ≡ w

-- without a schema a value that is no name is read as its canonical text
abbrev pub OneIsSameText : Type 0
OneIsSameText = (g : Setting) (c : Config) (e : Happening) (w : Written) → IsPlainBook g → written g c e ≡ Ok w → SeenWhere IsText (is_event (alone_in c.elements c.outer)) e w.given.0

abbrev pub ListIsSameText : Type 0
ListIsSameText = (g : Setting) (bits : ℕ) (limits : Bounds) (es : List Happening) (r : Run) → IsPlainBook g → body g bits limits es ≡ Ok r → AreSameText (pruned_list g.options es) (events_of r.events)
