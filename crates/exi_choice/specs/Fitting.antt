-- What is written of a value under a datatype, and under a production (EXI 1.0, sections 7.1, 8.4.3 and 8.5.4.4): the value
-- that its canonical text has there, where it has one and that has a spelling.
use Rattle.std.specs.Prelude.{◌≡◌, ℕ, Bool, true, false, List, [], Option, Some, None, if◌then◌else◌}
use Rattle.std.specs.Box.{box_value}
use Rattle.std.specs.Option.{option_copied}
use Rattle.exi_gram.specs.Outlines.{Outline}
use Rattle.exi_lexical.specs.Laws.{is_plain}
use Rattle.exi_lexical.specs.Values.{value}
use Rattle.exi_names.specs.Datatypes.{Representation}
use Rattle.exi_names.specs.Datatypes as datatype
use Rattle.exi_names.specs.Forms.{IsOf}
use Rattle.exi_names.specs.Seen.{Value, seen}
use Rattle.exi_names.specs.Seen as shape
use Rattle.exi_names.specs.Shown.{named}
use Rattle.exi_names.specs.declared.names.NameId.{NameId}
use Rattle.exi_names.specs.declared.names.QName.{QName}
use Rattle.exi_processing.specs.Contents.{is_nil}
use Rattle.exi_builtin.specs.Learning.{is_type}
use Rattle.exi_gram.specs.Globals.{attribute_datatype}
use Rattle.exi_processing.specs.Handing.{datatype_in}
use Rattle.exi_processing.specs.Rules.{Terminal, Valuing, attribute, by_name, characters, typed, untyped}
use Rattle.exi_writing.specs.Contents.{text_of}
use Rattle.exi_writing.specs.Pieces.{can_be_valued}
use Rattle.exi_choice.specs.declared.declared.Declared.{Declared as Kept}
use Rattle.exi_choice.specs.declared.declared.Declared.TheVariants as kept
use Rattle.exi_choice.specs.declared.fit.Fit.{Fit}
use Rattle.exi_choice.specs.declared.fit.Fit.TheVariants as fit
use Rattle.exi_choice.specs.declared.wanted.Valued.{Valued}
use Rattle.exi_choice.specs.declared.wanted.Valued.TheVariants as valued

-- ---- under a datatype
abbrev pub spelled_value : Option Value → Option Value
spelled_value None = None
spelled_value (Some v) = if can_be_valued v then Some v else None

abbrev pub value_of_text : Representation → Option (List ℕ) → Option Value
value_of_text r None = None
value_of_text r (Some t) = value r t

abbrev pub fit_for : Representation → Value → Option Value
fit_for r v = spelled_value (value_of_text r (text_of v))

-- of the form of a datatype whose values their canonical texts have again
pub record IsPlainOf (r : Representation) (v : Value) : Type 0 where
  pub plain : is_plain r ≡ true
  pub form : IsOf r v

-- what is kept of it: the value itself, or another
abbrev pub fitted : Value → Option Fit → Option Value
fitted v None = None
fitted v (Some fit.Own) = Some v
fitted v (Some (fit.Other w)) = Some (seen (box_value w))

-- ---- under a production
-- how the value of an attribute is represented
pub data Declared : Type 0 where
  as_type : Declared
  as_nil : Declared
  by_datatype : Representation → Declared

abbrev pub declaring : Kept → Declared
declaring kept.Type = as_type
declaring kept.Nil = as_nil
declaring (kept.Datatype d) = by_datatype (datatype_in (option_copied d))

abbrev pub is_type_at : Option NameId → Bool
is_type_at None = false
is_type_at (Some id) = is_type id

abbrev pub is_nil_at : Option NameId → Bool
is_nil_at None = false
is_nil_at (Some id) = is_nil id

-- by the least places of its name, where it stands in the tables
abbrev pub declared_in : Outline → Valuing → Option NameId → QName → Declared
declared_in s untyped id n = if is_type_at id then as_type else by_datatype datatype.text
declared_in s (typed r) id n = by_datatype r
declared_in s by_name id n = if is_type_at id then as_type else (if is_nil_at id then as_nil else by_datatype (attribute_datatype s.attributes n))

abbrev pub is_name : Value → Bool
is_name (shape.name n) = true
is_name v = false

abbrev pub fit_as : Declared → Value → Option Value
fit_as as_type v = if is_name v then Some v else None
fit_as as_nil v = fit_for (datatype.boolean false) v
fit_as (by_datatype r) v = fit_for r v

-- ---- the value of an event
pub data Having : Type 0 where
  nothing : Having
  of_attribute : Option NameId → QName → Value → Having
  of_characters : Value → Having

abbrev pub having : Valued → Having
having valued.Nothing = nothing
having (valued.Attribute id name v) = of_attribute id (named name) (seen v.now)
having (valued.Characters v) = of_characters (seen v.now)

abbrev pub value_in : Having → Value
value_in nothing = shape.text []
value_in (of_attribute id n v) = v
value_in (of_characters v) = v

-- what a production of the event's kind writes of its value, where it has a spelling there
abbrev pub fit_in : Outline → Terminal → Having → Option Value
fit_in s (attribute t v) (of_attribute id n x) = fit_as (declared_in s v id n) x
fit_in s (characters d) (of_characters x) = fit_for d x
fit_in s t h = Some (value_in h)
