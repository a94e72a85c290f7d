-- What is written is one of the spellings of the value, charges its units in turn, and leaves the tables that its reading
-- leaves.
use Rattle.std.specs.Prelude.{◌<◌, ◌≤◌, ◌^◌, ℕ, Bool, true, false, List, [], ◌∷◌, ◌++◌}
use Rattle.exi_bits.specs.declared.align.Align.{Align}
use Rattle.exi_names.specs.Datatypes.{Representation}
use Rattle.exi_names.specs.Datatypes as datatype
use Rattle.exi_names.specs.Forms.{IsOf, length_of}
use Rattle.exi_names.specs.Seen.{Value, Values, and, no_more}
use Rattle.exi_names.specs.Seen as value
use Rattle.exi_names.specs.declared.names.NameId.{NameId}
use Rattle.exi_names.specs.declared.val.TheConstants.{MOST_ITEMS}
use Rattle.exi_tables.specs.Growth.{IsSound}
use Rattle.exi_tables.specs.Partitions.{Partitions}
use Rattle.exi_typed.specs.WrittenLaws.{CanWrite, CanWriteName, IsWritten, ReadsBack, name_units}
use Rattle.exi_values.specs.Readings.{units_in}
use Rattle.exi_values.specs.Spelled.{SpellsValued}
use Rattle.exi_values.specs.Valued.{is_measured, valued_at}
use Rattle.exi_values.specs.Written.{after_valued, valued_bits}

-- ---- what a value is charged, in turn
abbrev pub choice_units : Bool → Value → List ℕ
choice_units true v = units_in v ∷ []
choice_units false v = 1 ∷ []

abbrev pub named_units : Value → List ℕ
named_units (value.name n) = 1 ∷ name_units n
named_units v = []

abbrev pub row_units : (Value → List ℕ) → Values → List ℕ
row_units one no_more = []
row_units one (and v vs) = one v ++ row_units one vs

abbrev pub list_units : (Value → List ℕ) → Value → List ℕ
list_units one (value.items vs) = length_of vs ∷ row_units one vs
list_units one v = []

unfoldable pub valued_units : Representation → Value → List ℕ
valued_units (datatype.small least count) v = 1 ∷ []
valued_units datatype.unsigned v = 1 ∷ []
valued_units datatype.integer v = 1 ∷ []
valued_units (datatype.boolean pattern) v = 1 ∷ []
valued_units (datatype.binary hex) v = units_in v ∷ []
valued_units datatype.decimal v = 1 ∷ []
valued_units datatype.float v = 1 ∷ []
valued_units (datatype.moment kind) v = 1 ∷ []
valued_units (datatype.list item) v = list_units (valued_units item) v
valued_units (datatype.choice base values) v = choice_units (is_measured base) v
valued_units datatype.text v = units_in v ∷ []
valued_units (datatype.chars set) v = units_in v ∷ []
valued_units (datatype.name keep) v = named_units v

-- ---- which values can be written: those of the datatype's form whose lengths can be told, of XML characters
abbrev pub CanWriteText : Value → Type 0
CanWriteText (value.text x) = CanWrite x
CanWriteText v = ⊥

abbrev pub CanWriteNamed : Bool → Partitions → Value → Type 0
CanWriteNamed keep p (value.name n) = CanWriteName keep p n
CanWriteNamed keep p v = ⊥

-- each under the tables that the one before left
abbrev pub CanWriteRow : (Partitions → Value → Type 0) → (Partitions → Value → Partitions) → Partitions → Values → Type 0
CanWriteRow One after p no_more = Unit {0}
CanWriteRow One after p (and v vs) = One p v × CanWriteRow One after (after p v) vs

abbrev pub CanWriteList : (Partitions → Value → Type 0) → (Partitions → Value → Partitions) → Partitions → Value → Type 0
CanWriteList One after p (value.items vs) = (length_of vs ≤ MOST_ITEMS) × CanWriteRow One after p vs
CanWriteList One after p v = ⊥

abbrev pub CanWriteValue : Representation → NameId → Partitions → Value → Type 0
CanWriteValue (datatype.small least count) name p v = IsOf (datatype.small least count) v
CanWriteValue datatype.unsigned name p v = IsOf datatype.unsigned v
CanWriteValue datatype.integer name p v = IsOf datatype.integer v
CanWriteValue (datatype.boolean pattern) name p v = IsOf (datatype.boolean pattern) v
CanWriteValue (datatype.binary hex) name p v = IsOf (datatype.binary hex) v × (units_in v < 2 ^ 128)
CanWriteValue datatype.decimal name p v = IsOf datatype.decimal v
CanWriteValue datatype.float name p v = IsOf datatype.float v
CanWriteValue (datatype.moment kind) name p v = IsOf (datatype.moment kind) v
CanWriteValue (datatype.list item) name p v = CanWriteList (CanWriteValue item name) (after_valued item name) p v
CanWriteValue (datatype.choice base values) name p v = IsOf (datatype.choice base values) v
CanWriteValue datatype.text name p v = CanWriteText v
CanWriteValue (datatype.chars set) name p v = CanWriteText v
CanWriteValue (datatype.name keep) name p v = CanWriteNamed keep p v

-- ---- the laws
-- in tables that grew from the first ones, a value stands at one place of its name
abbrev pub ValuesAreWritten : Type 0
ValuesAreWritten = (r : Representation) (a : Align) (name : NameId) (p : Partitions) (v : Value) → IsSound p.values → CanWriteValue r name p v
    → IsWritten (SpellsValued r a name v) (valued_units r v) p (after_valued r name p v) (valued_bits r a name p v)

-- it is read back, whatever follows
abbrev pub ValuesAreReadBack : Type 0
ValuesAreReadBack = (r : Representation) (a : Align) (name : NameId) (p : Partitions) (v : Value) → IsSound p.values → CanWriteValue r name p v
    → ReadsBack a (valued_at r a name) v (valued_units r v) p (after_valued r name p v) (valued_bits r a name p v)
