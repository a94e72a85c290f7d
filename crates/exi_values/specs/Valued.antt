-- The value of an attribute or of characters under every datatype (EXI 1.0, section 7.1), by the datatype's representation:
-- one reading, in which the items of a list are values by a reading of their own.
use Rattle.std.specs.Prelude.{◌≡◌, Bool, true, false}
use Rattle.exi_bits.specs.declared.align.Align.{Align}
use Rattle.exi_names.specs.Datatypes.{Representation}
use Rattle.exi_names.specs.Datatypes as datatype
use Rattle.exi_names.specs.Seen.{Value}
use Rattle.exi_names.specs.declared.names.NameId.{NameId}
use Rattle.exi_scalar.specs.Scalars.{boolean_at, decimal_at, float_at}
use Rattle.exi_typed.specs.Items.{IsTabled, item_at, qualified, string, tabled}
use Rattle.exi_typed.specs.ReadStates.{ContextReader, ReadState}
use Rattle.exi_values.specs.Readings.{charged_first, choice_at, dated_at, list_at, natural_at, octets_value_at, small_at, string_in, whole_at}

-- the values of an enumeration with this base are texts or octets
abbrev pub is_measured : Representation → Bool
is_measured (datatype.small least count) = false
is_measured datatype.unsigned = false
is_measured datatype.integer = false
is_measured (datatype.boolean pattern) = false
is_measured (datatype.binary hex) = true
is_measured datatype.decimal = false
is_measured datatype.float = false
is_measured (datatype.moment kind) = false
is_measured (datatype.list item) = false
is_measured (datatype.choice base values) = is_measured base
is_measured datatype.text = true
is_measured (datatype.chars set) = true
is_measured (datatype.name keep) = false

-- a value under a name
unfoldable pub valued_at : Representation → Align → NameId → ContextReader Value
valued_at (datatype.small least count) a name = charged_first (small_at least count a)
valued_at datatype.unsigned a name = charged_first natural_at
valued_at datatype.integer a name = charged_first (whole_at a)
valued_at (datatype.boolean pattern) a name = charged_first (boolean_at pattern a)
valued_at (datatype.binary hex) a name = octets_value_at hex
valued_at datatype.decimal a name = charged_first (decimal_at a)
valued_at datatype.float a name = charged_first (float_at a)
valued_at (datatype.moment kind) a name = charged_first (dated_at kind a)
valued_at (datatype.list item) a name = list_at (valued_at item a name)
valued_at (datatype.choice base values) a name = choice_at (is_measured base) values a
valued_at datatype.text a name = item_at string a name
valued_at (datatype.chars set) a name = string_in set a name
valued_at (datatype.name keep) a name = item_at (qualified keep) a name

-- where items go through the tables they are read as there
abbrev pub ReadsTabled : Type 0
ReadsTabled = (r : Representation) (a : Align) (name : NameId) (c : ReadState) → IsTabled r → valued_at r a name c ≡ item_at (tabled r) a name c
