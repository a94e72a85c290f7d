-- What a production writes of an event behind its code, where it is one that the production may stand for (EXI 1.0,
-- sections 4, 7.1 and 8.4).
use Rattle.std.specs.Prelude.{ℕ, ◌&&◌, Bool, true, false, List, [], Option, Some, None, if◌then◌else◌}
use Rattle.exi_gram.specs.Switches.{align_of, prefixes}
use Rattle.exi_lexical.specs.Values.{canonical, value}
use Rattle.exi_names.specs.Datatypes.{Representation}
use Rattle.exi_names.specs.declared.names.NameId.{NameId}
use Rattle.exi_names.specs.declared.names.QName.{QName}
use Rattle.exi_names.specs.Events.{Happening}
use Rattle.exi_names.specs.Events as event
use Rattle.exi_names.specs.Seen.{Value, Values, no_more, and}
use Rattle.exi_names.specs.Seen as shape
use Rattle.exi_typed.specs.Strings.{Declaration, Named}
use Rattle.exi_processing.specs.Changes.{innermost}
use Rattle.exi_processing.specs.Configurations.{Config, Setting}
use Rattle.exi_processing.specs.Contents.{acts_as_type, is_missing, represented_by}
use Rattle.exi_processing.specs.Plans.{Alone, plan_on}
use Rattle.exi_processing.specs.Rules.{Rule, Telling, Terminal, Valuing, attribute, characters, comment, declaration, document_type, element, end_document, end_element, entity, instruction, known, self_contained, spelled, start_document, under}
use Rattle.exi_writing.specs.Pieces as piece
use Rattle.exi_writing.specs.Pieces.{Piece, Writing, as_bits, both, turned}

-- ---- values as strings
-- neither a list nor a name
abbrev pub is_item : Value → Bool
is_item (shape.items vs) = false
is_item (shape.name n) = false
is_item v = true

abbrev pub are_items : Values → Bool
are_items no_more = true
are_items (and v vs) = is_item v && are_items vs

-- whether a value has a text where a string is written: a name has none, nor has a list that holds a list or a name
abbrev pub has_string : Value → Bool
has_string (shape.items vs) = are_items vs
has_string v = is_item v

-- that text, its canonical one
abbrev pub text_of : Value → Option (List ℕ)
text_of v = if has_string v then Some (canonical v) else None

-- ---- writing that may have nothing to write
abbrev pub of : {A X : Type 0} → Option A → (A → Writing X) → Writing X
of None write p = None
of (Some a) write p = write a p

-- ---- what an event holds, where it is of this kind
abbrev pub se_name : Happening → Option QName
se_name (event.se n) = Some n
se_name e = None

abbrev pub at_parts : Happening → Option (QName × Value)
at_parts (event.at n v) = Some (n, v)
at_parts e = None

abbrev pub ch_value : Happening → Option Value
ch_value (event.ch v) = Some v
ch_value e = None

abbrev pub ns_parts : Happening → Option Declaration
ns_parts (event.ns uri prefix own) = Some (record { uri = uri; prefix = prefix; element = own })
ns_parts e = None

abbrev pub cm_text : Happening → Option (List ℕ)
cm_text (event.cm t) = Some t
cm_text e = None

abbrev pub pi_parts : Happening → Option (List ℕ × List ℕ)
pi_parts (event.pi target t) = Some (target, t)
pi_parts e = None

abbrev pub dt_parts : Happening → Option ((List ℕ × List ℕ) × (List ℕ × List ℕ))
dt_parts (event.dt n public system t) = Some ((n, public), (system, t))
dt_parts e = None

abbrev pub er_name : Happening → Option (List ℕ)
er_name (event.er n) = Some n
er_name e = None

abbrev pub is_sd : Happening → Option (Unit {0})
is_sd event.sd = Some tt
is_sd e = None

abbrev pub is_ed : Happening → Option (Unit {0})
is_ed event.ed = Some tt
is_ed e = None

abbrev pub is_ee : Happening → Option (Unit {0})
is_ee event.ee = Some tt
is_ee e = None

abbrev pub is_sc : Happening → Option (Unit {0})
is_sc (event.sc byte) = Some tt
is_sc e = None

-- ---- contents
abbrev pub nothing : Option (Unit {0}) → Writing (Unit {0})
nothing o p = of o (λ x. as_bits x []) p

abbrev pub told_name : Setting → Telling → QName → Writing Named
told_name g spelled n p = piece.name (prefixes g.options) (align_of g.options) n p
told_name g (under uri) n p = piece.under (prefixes g.options) (align_of g.options) uri n p
told_name g (known id) n p = piece.known (prefixes g.options) (align_of g.options) id n p

-- the value of xsi:type is a name alone
abbrev pub type_value : Setting → Value → Writing Value
type_value g (shape.name n) p = turned (λ x. shape.name x.name) (piece.name_value (prefixes g.options) (align_of g.options) n p)
type_value g v p = None

-- under a datatype: the value that its canonical text has there
abbrev pub valued : Setting → Representation → NameId → Value → Writing Value
valued g r name v p = of (text_of v) (λ t. of (value r t) (piece.value r (align_of g.options) name)) p

-- of an attribute: in a strict stream none that names a type which is not there
abbrev pub attribute_value : Setting → Valuing → Named → Value → Writing Value
attribute_value g v name x p = if acts_as_type v name.id then (if is_missing g v name.id x then None else type_value g x p) else valued g (represented_by g v name) name.id x p

abbrev pub attribute_by : Setting → Telling → Valuing → QName × Value → Writing (Named × Value)
attribute_by g t v x p = both (told_name g t x.0) (λ name. attribute_value g v name x.1) p

abbrev pub text : Setting → List ℕ → Writing (List ℕ)
text g x p = piece.literal (align_of g.options) x p

abbrev pub two_texts : Setting → List ℕ × List ℕ → Writing (List ℕ × List ℕ)
two_texts g x p = both (text g x.0) (λ first. text g x.1) p

abbrev pub four_texts : Setting → (List ℕ × List ℕ) × (List ℕ × List ℕ) → Writing ((List ℕ × List ℕ) × (List ℕ × List ℕ))
four_texts g x p = both (two_texts g x.0) (λ first. two_texts g x.1) p

-- what a production writes of an event; nothing where it stands for another, or where something has no spelling
abbrev pub written_on : (g : Setting) (a : Alone) (c : Config) (r : Rule) (t : Terminal) (e : Happening) → Writing (plan_on g a c r t).Item
written_on g a c r start_document e p = nothing (is_sd e) p
written_on g a c r end_document e p = nothing (is_ed e) p
written_on g a c r (element t) e p = of (se_name e) (told_name g t) p
written_on g a c r (attribute t v) e p = of (at_parts e) (attribute_by g t v) p
written_on g a c r (characters d) e p = of (ch_value e) (valued g d (innermost c.elements)) p
written_on g a c r end_element e p = nothing (is_ee e) p
written_on g a c r declaration e p = of (ns_parts e) (piece.declaration (align_of g.options)) p
written_on g a c r self_contained e p = nothing (is_sc e) p
written_on g a c r comment e p = of (cm_text e) (text g) p
written_on g a c r instruction e p = of (pi_parts e) (two_texts g) p
written_on g a c r document_type e p = of (dt_parts e) (four_texts g) p
written_on g a c r entity e p = of (er_name e) (text g) p
