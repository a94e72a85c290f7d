-- Items by their representation, as the value of an attribute or of characters (EXI 1.0, section 7.1): one reading,
-- and one spelling. Those that go through the string tables have theirs so far.
use Rattle.std.specs.Prelude.{◌≡◌, ◌≢◌, ℕ, Bool, List, Option, None, Some, Ok, unwrap_or}
use Rattle.exi_bits.specs.declared.align.Align.{Align}
use Rattle.exi_bits.specs.Unsigned.{◌>>=◌}
use Rattle.exi_names.specs.Datatypes.{Representation}
use Rattle.exi_names.specs.Datatypes as datatype
use Rattle.exi_names.specs.declared.names.NameId.{NameId}
use Rattle.exi_names.specs.Seen.{Value}
use Rattle.exi_names.specs.Seen as value
use Rattle.exi_tables.specs.Partitions.{Partitions}
use Rattle.exi_typed.specs.Charging.{Charge}
use Rattle.exi_typed.specs.ReadStates.{ContextReader}
use Rattle.exi_typed.specs.NameValues.{SpellsNameValue, name_value_at}
use Rattle.exi_typed.specs.Spelled.{OneSpelling, SpellsValue}
use Rattle.exi_typed.specs.Strings.{Named, value_at}

-- the representations whose items go through the string tables
pub data Tabled : Type 0 where
  -- any text
  string : Tabled
  -- a name, and whether its prefix is kept
  qualified : Bool → Tabled

-- how a datatype's items go through the tables, where they do
abbrev pub tabled_of : Representation → Option Tabled
tabled_of (datatype.small least count) = None
tabled_of datatype.unsigned = None
tabled_of datatype.integer = None
tabled_of (datatype.boolean pattern) = None
tabled_of (datatype.binary hex) = None
tabled_of datatype.decimal = None
tabled_of datatype.float = None
tabled_of (datatype.moment kind) = None
tabled_of (datatype.list item) = None
tabled_of (datatype.choice base values) = None
tabled_of datatype.text = Some string
tabled_of (datatype.chars set) = None
tabled_of (datatype.name keep) = Some (qualified keep)

-- the datatype's items go through the tables
abbrev pub IsTabled : Representation → Type 0
IsTabled r = tabled_of r ≢ None

-- how they do
abbrev pub tabled : Representation → Tabled
tabled r = unwrap_or (tabled_of r) string

-- an item under a name
unfoldable pub item_at : Tabled → Align → NameId → ContextReader Value
item_at string a name c = do
  text ← value_at None a name c
  Ok (value.text text.0, text.1)
item_at (qualified keep) a name c = do
  found ← name_value_at keep a c
  Ok (value.name found.0.name, found.1)

pub record SpellsString (a : Align) (name : NameId) (v : Value) (p q : Partitions) (ks : List Charge) (bits : List Bool) : Type 0 where
  pub string : List ℕ
  pub is : v ≡ value.text string
  pub spelled : SpellsValue None a name string p q ks bits

pub record SpellsQualified (keep : Bool) (a : Align) (v : Value) (p q : Partitions) (ks : List Charge) (bits : List Bool) : Type 0 where
  pub name : Named
  pub is : v ≡ value.name name.name
  pub spelled : SpellsNameValue keep a name p q ks bits

abbrev pub SpellsItem : Tabled → Align → NameId → Value → OneSpelling
SpellsItem string a name v p q ks bits = SpellsString a name v p q ks bits
SpellsItem (qualified keep) a name v p q ks bits = SpellsQualified keep a v p q ks bits
