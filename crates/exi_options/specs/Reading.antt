-- How the options document is read (EXI 1.0, section 5.4): one code after another, and behind a code the value that it
-- stands for. What is not told is as the recommendation's defaults have it.
use Rattle.std.specs.Prelude.{ℕ, zero, suc, ◌+◌, ◌*◌, ◌-◌, ◌==◌, length, nat_le, if◌then◌else◌, List, Option, Some, None, Result, Ok, Err}
use Rattle.std.specs.Int.RustNames.{bit_or}
use Rattle.exi_bits.specs.declared.align.Align.TheVariants as align
use Rattle.exi_bits.specs.declared.fault.Fault.{Fault}
use Rattle.exi_bits.specs.declared.fault.Kind.TheVariants as kind
use Rattle.exi_bits.specs.Bits.{Spot, left}
use Rattle.exi_bits.specs.Repeat.{Reader, times}
use Rattle.exi_bits.specs.Unsigned.{◌>>=◌, fault_at, unsigned_at}
use Rattle.exi_gram.specs.declared.options.OptionFlags.{OptionFlags}
use Rattle.exi_gram.specs.declared.options.SchemaWord.{SchemaWord}
use Rattle.exi_gram.specs.declared.options.SchemaWord.TheVariants as schema
use Rattle.exi_gram.specs.Codes.{code_at}
use Rattle.exi_gram.specs.Switches.{conflicts, default_options}
use Rattle.exi_text.specs.Literals.{char_at}
use Rattle.exi_options.specs.declared.table.Sign.{Sign}
use Rattle.exi_options.specs.declared.table.Sign.TheVariants as sign
use Rattle.exi_options.specs.declared.table.State.{State}
use Rattle.exi_options.specs.declared.table.State.TheVariants as state
use Rattle.exi_options.specs.declared.told.Told.{Told}
use Rattle.exi_options.specs.Document.{ahead, codes, flag, productions}
use Rattle.exi_options.specs.declared.name.TheConstants.{MOST_CHARACTERS}

-- ---- what is told
-- nothing
abbrev pub untold : Told
untold = record { options = default_options; schema_bit = None }

abbrev pub switched : OptionFlags → Told → Told
switched f t = record t { options = record t.options { flags = flag (bit_or t.options.flags.0 f.0) } }

abbrev pub with_block : ℕ → Told → Told
with_block n t = record t { options = record t.options { block = n } }

abbrev pub with_most : ℕ → Told → Told
with_most n t = record t { options = record t.options { most = Some n } }

abbrev pub with_capacity : ℕ → Told → Told
with_capacity n t = record t { options = record t.options { capacity = Some n } }

abbrev pub with_schema : SchemaWord → Told → Told
with_schema w t = record t { options = record t.options { schema = w } }

abbrev pub with_schema_bit : ℕ → Told → Told
with_schema_bit bit t = record t { schema_bit = Some bit }

-- ---- the schema's name
-- how many characters it has at most (our own bound)
abbrev pub most_characters : ℕ
most_characters = MOST_CHARACTERS

-- A string that the empty string tables do not hold (section 7.3.3): its length and 2, and its characters. 0 and 1 stand
-- for a string of the tables, of which there is none.
unfoldable pub name_at : Reader (List ℕ)
name_at s = do
  length ← unsigned_at s
  if nat_le 2 length.0 then (if nat_le (length.0 - 2) most_characters then times (char_at None align.Bits) (length.0 - 2) length.1 else fault_at kind.TextLimit s) else fault_at kind.BadPlace length.1

-- ---- one code after another
-- what is told with what a code stands for, which began at that bit
unfoldable pub value_at : Sign → ℕ → Told → Reader Told
value_at (sign.Opens e) bit t s = Ok (t, s)
value_at sign.Ends bit t s = Ok (t, s)
value_at (sign.Switch f) bit t s = Ok (switched f t, s)
value_at sign.Byte bit t s = Ok (switched (flag 8) t, s)
value_at sign.BlockSize bit t s = unsigned_at s >>= λ n. Ok (with_block n.0 t, n.1)
value_at sign.ValueMaxLength bit t s = unsigned_at s >>= λ n. Ok (with_most n.0 t, n.1)
value_at sign.ValuePartitionCapacity bit t s = unsigned_at s >>= λ n. Ok (with_capacity n.0 t, n.1)
value_at sign.SchemaId bit t s = Ok (with_schema_bit bit t, s)
value_at sign.Text bit t s = name_at s >>= λ n. Ok (with_schema (schema.Id n.0) t, n.1)
value_at sign.False bit t s = Ok (t, s)
value_at sign.True bit t s = Ok (with_schema schema.Nil t, s)
value_at (sign.Refused p) bit t s = Err (record { kind = kind.Unsupported p; bit = bit })

-- so many codes at most from a state on, up to the end of the document
unfoldable pub codes_at : ℕ → State → Told → Reader Told
codes_at zero st t s = Ok (t, s)
codes_at (suc n) st t s = if length (codes st) == 0 then Ok (t, s) else (do
  code ← code_at align.Bits (productions st) s
  told ← value_at code.0.0 s.place t code.1
  codes_at n code.0.1 told.0 told.1)

-- no document has more codes: no two without bits follow each other more often than states do, and xsi:nil is false no
-- more often than there are bits for it
abbrev pub most_codes : Spot → ℕ
most_codes s = ahead state.Document + 2 * left s

-- all that is told
unfoldable pub document_at : Reader Told
document_at s = codes_at (most_codes s) state.Document untold s

-- the same; or Conflict at the first bit behind the document where options are told that exclude each other
unfoldable pub options_at : Reader Told
options_at s = do
  told ← document_at s
  if conflicts told.0.options then fault_at kind.Conflict told.1 else Ok told
