-- How options are written: each state's first code that they want. So what is as the defaults have it is left out.
use Rattle.std.specs.Prelude.{◌≡◌, ◌≤◌, ℕ, zero, suc, ◌+◌, ◌==◌, ◌&&◌, ◌||◌, Bool, true, false, not, List, [], ◌∷◌, ◌++◌, length, position, get_or, Option, Some, None, if◌then◌else◌}
use Rattle.std.specs.Int.RustNames.{bit_and}
use Rattle.exi_bits.specs.declared.align.Align.TheVariants as align
use Rattle.exi_bits.specs.Bits.{bits, number_bits}
use Rattle.exi_bits.specs.Unsigned.{shortest}
use Rattle.exi_bits.specs.Widths.{width_for}
use Rattle.exi_gram.specs.declared.options.Options.{Options}
use Rattle.exi_gram.specs.declared.options.OptionFlags.{OptionFlags}
use Rattle.exi_gram.specs.declared.options.SchemaWord.{SchemaWord}
use Rattle.exi_gram.specs.declared.options.SchemaWord.TheVariants as schema
use Rattle.exi_gram.specs.Switches.{byte_aligned, comments, dtd, fragment, prefixes, processing_instructions, self_contained}
use Rattle.exi_text.specs.Literals.{all_xml, chars_bits}
use Rattle.exi_options.specs.declared.table.Element.{Element}
use Rattle.exi_options.specs.declared.table.Element.TheVariants as element
use Rattle.exi_options.specs.declared.table.Sign.{Sign}
use Rattle.exi_options.specs.declared.table.Sign.TheVariants as sign
use Rattle.exi_options.specs.declared.table.State.{State}
use Rattle.exi_options.specs.declared.table.State.TheVariants as state
use Rattle.exi_options.specs.Document.{Code, ahead, codes}
use Rattle.exi_options.specs.Reading.{most_characters}

-- ---- what is wanted
abbrev pub is_told : {X : Type 0} → Option X → Bool
is_told None = false
is_told (Some x) = true

abbrev pub is_absent : SchemaWord → Bool
is_absent schema.Absent = true
is_absent schema.Nil = false
is_absent (schema.Id name) = false

abbrev pub is_name : SchemaWord → Bool
is_name schema.Absent = false
is_name schema.Nil = false
is_name (schema.Id name) = true

-- another size of blocks than the default
abbrev pub other_block : Options → Bool
other_block o = not (o.block == 1_000_000)

abbrev pub wants_uncommon : Options → Bool
wants_uncommon o = byte_aligned o || (self_contained o || (is_told o.most || is_told o.capacity))

abbrev pub wants_preserve : Options → Bool
wants_preserve o = dtd o || (prefixes o || (comments o || processing_instructions o))

abbrev pub wants_lesscommon : Options → Bool
wants_lesscommon o = wants_uncommon o || (wants_preserve o || other_block o)

abbrev pub wants_common : Options → Bool
wants_common o = fragment o || not (is_absent o.schema)

-- an element that holds others is opened where one of them is wanted
unfoldable pub opened : Options → Element → Bool
opened o element.Header = true
opened o element.Lesscommon = wants_lesscommon o
opened o element.Uncommon = wants_uncommon o
opened o element.Alignment = byte_aligned o
opened o element.Preserve = wants_preserve o
opened o element.Common = wants_common o
opened o element.Nil = true

abbrev pub is_on : OptionFlags → Options → Bool
is_on f o = bit_and o.flags.0 f.0 == f.0

unfoldable pub wanted : Options → Sign → Bool
wanted o (sign.Opens e) = opened o e
wanted o sign.Ends = true
wanted o (sign.Switch f) = is_on f o
wanted o sign.Byte = true
wanted o sign.BlockSize = other_block o
wanted o sign.ValueMaxLength = is_told o.most
wanted o sign.ValuePartitionCapacity = is_told o.capacity
wanted o sign.SchemaId = not (is_absent o.schema)
wanted o sign.Text = is_name o.schema
wanted o sign.False = false
wanted o sign.True = true
wanted o (sign.Refused p) = false

-- ---- what is written
-- the schema's name has characters of XML, and not too many
abbrev pub IsNamable : SchemaWord → Type 0
IsNamable schema.Absent = Unit {0}
IsNamable schema.Nil = Unit {0}
IsNamable (schema.Id name) = (all_xml name ≡ true) × (length name ≤ most_characters)

abbrev pub number_or_none : Option ℕ → List Bool
number_or_none None = []
number_or_none (Some n) = bits (shortest n)

-- a string that empty string tables do not hold
abbrev pub name_bits : List ℕ → List Bool
name_bits name = bits (shortest (length name + 2)) ++ chars_bits None align.Bits name

abbrev pub schema_bits : SchemaWord → List Bool
schema_bits schema.Absent = []
schema_bits schema.Nil = []
schema_bits (schema.Id name) = name_bits name

-- the value behind a code
unfoldable pub value_bits : Options → Sign → List Bool
value_bits o (sign.Opens e) = []
value_bits o sign.Ends = []
value_bits o (sign.Switch f) = []
value_bits o sign.Byte = []
value_bits o sign.BlockSize = bits (shortest o.block)
value_bits o sign.ValueMaxLength = number_or_none o.most
value_bits o sign.ValuePartitionCapacity = number_or_none o.capacity
value_bits o sign.SchemaId = []
value_bits o sign.Text = schema_bits o.schema
value_bits o sign.False = []
value_bits o sign.True = []
value_bits o (sign.Refused p) = []

-- the place of the first code that is wanted, of those of a state
abbrev pub chosen : Options → State → Option ℕ
chosen o st = position (λ c. wanted o c.0) (codes st)

abbrev pub code_in : State → ℕ → Code
code_in st place = get_or (codes st) place (sign.Ends, state.End)

-- a code, and its value
abbrev pub piece : Options → State → ℕ → List Bool
piece o st place = number_bits (width_for (length (codes st))) place ++ value_bits o (code_in st place).0

-- a code and its value, and what is written behind them
abbrev pub written_by : Options → State → (State → List Bool) → Option ℕ → List Bool
written_by o st others None = []
written_by o st others (Some place) = piece o st place ++ others (code_in st place).1

-- so many codes at most from a state on
abbrev pub written_from : ℕ → Options → State → List Bool
written_from zero o st = []
written_from (suc n) o st = written_by o st (written_from n o) (chosen o st)

-- the whole document
unfoldable pub options_bits : Options → List Bool
options_bits o = written_from (ahead state.Document) o state.Document
