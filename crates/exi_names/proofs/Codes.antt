-- Codes of values, events and datatypes, by which a proof tells them apart. With them an `impl Model` may have such a value, as in
-- `ghost Value = { List Happening }; ghost coded = { coded_list happening_code };`.
use Rattle.std.specs.Prelude.{◌≡◌, ℕ, ℤ, Bool, List, [], ◌∷◌, ◌++◌}
use Rattle.std.proofs.Common.{refl, sym, ap, ◌∙◌, append_assoc}
use Rattle.std.proofs.lemmas.List.{append-nil}
use Rattle.std.specs.Coded.{Coded, code_by, coded_list, codes}
use Rattle.exi_names.specs.Wholes.{Number}
use Rattle.exi_names.specs.declared.moment.Moment.{Moment}
use Rattle.exi_names.specs.declared.names.QName.{QName}
use Rattle.exi_names.specs.contracts.moment.Moment as moment_facts
use Rattle.exi_names.specs.contracts.names.QName as name_facts
use Rattle.exi_names.specs.Seen.{Value, Values, no_more, and}
use Rattle.exi_names.specs.Seen as value
use Rattle.exi_names.specs.Events.{Happening}
use Rattle.exi_names.specs.Datatypes.{Representation}
use Rattle.exi_names.specs.Datatypes as datatype
use Rattle.exi_names.specs.declared.moment.MomentKind.{MomentKind}
use Rattle.exi_names.specs.contracts.moment.MomentKind as kind_facts

-- a value in a row: a list is `more` before each item, and `close` at its end
data Mark : Type 0 where
  close : Mark
  more : Mark
  text : List ℕ → Mark
  boolean : Bool → Bool → Mark
  integer : Number → Mark
  decimal : Bool → ℕ → ℕ → Mark
  float : ℤ → ℤ → Mark
  moment : Moment → Mark
  binary : Bool → List ℕ → Mark
  name : QName → Mark

mark_code : Coded Mark
mark_code = hlevel (codes, moment_facts.the_row.coded, name_facts.the_row.coded)

abbrev mutual
  row : Value → List Mark
  row (value.text t) = text t ∷ []
  row (value.boolean truth digit) = boolean truth digit ∷ []
  row (value.integer n) = integer n ∷ []
  row (value.decimal minus whole back) = decimal minus whole back ∷ []
  row (value.float mantissa exponent) = float mantissa exponent ∷ []
  row (value.moment m) = moment m ∷ []
  row (value.binary hex octets) = binary hex octets ∷ []
  row (value.items list) = rows list
  row (value.name n) = name n ∷ []

  rows : Values → List Mark
  rows no_more = close ∷ []
  rows (and v vs) = more ∷ row v ++ rows vs

-- an item goes before the list that follows it
abbrev joined : List Value → List Value
joined (v ∷ value.items vs ∷ rest) = value.items (and v vs) ∷ rest
joined others = others

abbrev read : List Mark → List Value
read [] = []
read (close ∷ marks) = value.items no_more ∷ read marks
read (more ∷ marks) = joined (read marks)
read (text t ∷ marks) = value.text t ∷ read marks
read (boolean truth digit ∷ marks) = value.boolean truth digit ∷ read marks
read (integer n ∷ marks) = value.integer n ∷ read marks
read (decimal minus whole back ∷ marks) = value.decimal minus whole back ∷ read marks
read (float mantissa exponent ∷ marks) = value.float mantissa exponent ∷ read marks
read (moment m ∷ marks) = value.moment m ∷ read marks
read (binary hex octets ∷ marks) = value.binary hex octets ∷ read marks
read (name n ∷ marks) = value.name n ∷ read marks

mutual
  read-row : (v : Value) (marks : List Mark) → read (row v ++ marks) ≡ v ∷ read marks
  read-row (value.text t) marks = refl
  read-row (value.boolean truth digit) marks = refl
  read-row (value.integer n) marks = refl
  read-row (value.decimal minus whole back) marks = refl
  read-row (value.float mantissa exponent) marks = refl
  read-row (value.moment m) marks = refl
  read-row (value.binary hex octets) marks = refl
  read-row (value.items list) marks = read-rows list marks
  read-row (value.name n) marks = refl

  read-rows : (vs : Values) (marks : List Mark) → read (rows vs ++ marks) ≡ value.items vs ∷ read marks
  read-rows no_more marks = refl
  read-rows (and v vs) marks =
      ap (λ ms. joined (read ms)) (append_assoc (row v) (rows vs) marks)
      ∙ ap joined (read-row v (rows vs ++ marks) ∙ ap (λ rest. v ∷ rest) (read-rows vs marks))

abbrev first : List Value → Value
first [] = value.items no_more
first (v ∷ vs) = v

first-row : (v : Value) → first (read (row v)) ≡ v
first-row v = ap (λ marks. first (read marks)) (sym (append-nil (row v))) ∙ ap first (read-row v [])

pub value_code : Coded Value
value_code = code_by (List Mark) (coded_list mark_code) row (λ marks. first (read marks)) first-row

pub happening_code : Coded Happening
happening_code = hlevel (codes, value_code, name_facts.the_row.coded)

-- a datatype in a row: what it is made by, from the outermost to the innermost
data Layer : Type 0 where
  of_small : ℤ → ℕ → Layer
  of_unsigned : Layer
  of_integer : Layer
  of_boolean : Bool → Layer
  of_binary : Bool → Layer
  of_decimal : Layer
  of_float : Layer
  of_moment : MomentKind → Layer
  of_list : Layer
  of_choice : List Value → Layer
  of_text : Layer
  of_chars : List ℕ → Layer
  of_name : Bool → Layer

layer_code : Coded Layer
layer_code = hlevel (codes, value_code, kind_facts.the_row.coded)

abbrev layers : Representation → List Layer
layers (datatype.small least count) = of_small least count ∷ []
layers datatype.unsigned = of_unsigned ∷ []
layers datatype.integer = of_integer ∷ []
layers (datatype.boolean pattern) = of_boolean pattern ∷ []
layers (datatype.binary hex) = of_binary hex ∷ []
layers datatype.decimal = of_decimal ∷ []
layers datatype.float = of_float ∷ []
layers (datatype.moment kind) = of_moment kind ∷ []
layers (datatype.list item) = of_list ∷ layers item
layers (datatype.choice base values) = of_choice values ∷ layers base
layers datatype.text = of_text ∷ []
layers (datatype.chars cs) = of_chars cs ∷ []
layers (datatype.name prefixes) = of_name prefixes ∷ []

abbrev made : List Layer → Representation
made [] = datatype.text
made (of_small least count ∷ _) = datatype.small least count
made (of_unsigned ∷ _) = datatype.unsigned
made (of_integer ∷ _) = datatype.integer
made (of_boolean pattern ∷ _) = datatype.boolean pattern
made (of_binary hex ∷ _) = datatype.binary hex
made (of_decimal ∷ _) = datatype.decimal
made (of_float ∷ _) = datatype.float
made (of_moment kind ∷ _) = datatype.moment kind
made (of_list ∷ inner) = datatype.list (made inner)
made (of_choice values ∷ inner) = datatype.choice (made inner) values
made (of_text ∷ _) = datatype.text
made (of_chars cs ∷ _) = datatype.chars cs
made (of_name prefixes ∷ _) = datatype.name prefixes

made-layers : (r : Representation) → made (layers r) ≡ r
made-layers (datatype.small least count) = refl
made-layers datatype.unsigned = refl
made-layers datatype.integer = refl
made-layers (datatype.boolean pattern) = refl
made-layers (datatype.binary hex) = refl
made-layers datatype.decimal = refl
made-layers datatype.float = refl
made-layers (datatype.moment kind) = refl
made-layers (datatype.list item) = ap (λ r. datatype.list r) (made-layers item)
made-layers (datatype.choice base values) = ap (λ r. datatype.choice r values) (made-layers base)
made-layers datatype.text = refl
made-layers (datatype.chars cs) = refl
made-layers (datatype.name prefixes) = refl

pub representation_code : Coded Representation
representation_code = code_by (List Layer) (coded_list layer_code) layers made made-layers
