-- The header of a stream, and what of it is refused (EXI 1.0, section 5): the name of a schema that is not known.
use Rattle.std.specs.Prelude.{ℕ, ◌==◌, Bool, true, not, List, length, Option, Some, None, Result, Ok, Err, encode_utf8_all, if◌then◌else◌}
use Rattle.std.specs.Str.{bytes_eq}
use Rattle.exi_bits.specs.declared.fault.Fault.{Fault}
use Rattle.exi_bits.specs.declared.fault.Kind.TheVariants as kind
use Rattle.exi_gram.specs.declared.options.Options.{Options}
use Rattle.exi_gram.specs.declared.options.SchemaWord.{SchemaWord}
use Rattle.exi_gram.specs.declared.options.SchemaWord.TheVariants as schema
use Rattle.exi_header.specs.declared.header.Header.{Header}
use Rattle.exi_header.specs.Headers.{header_in}

abbrev pub refused_at : Option ℕ → Header → Result Header Fault
refused_at None h = Ok h
refused_at (Some bit) h = Err (record { kind = kind.WrongSchema; bit = bit })

-- ---- where no schema may be named
-- the bit of the code that opened schemaId, where that is a name, of which an empty one stands for the types of XML Schema alone
abbrev pub name_bit : SchemaWord → Option ℕ → Option ℕ
name_bit schema.Absent bit = None
name_bit schema.Nil bit = None
name_bit (schema.Id name) bit = bit

abbrev pub accepted : Result Header Fault → Result Header Fault
accepted (Ok h) = refused_at (name_bit h.options.schema h.schema_bit) h
accepted (Err f) = Err f

-- the header of a stream's bytes, with the options of the words where it tells none; it is read whole before a name is refused
unfoldable pub header_for : Options → List ℕ → Result Header Fault
header_for words bytes = accepted (header_in words bytes)

-- ---- where one may be named that is known by this name, if it has one
-- the empty name
abbrev pub is_empty_name : List ℕ → Bool
is_empty_name name = length (encode_utf8_all name) == 0

-- a name is compared by its bytes in UTF-8
abbrev pub is_another : Option (List ℕ) → List ℕ → Bool
is_another None name = true
is_another (Some known) name = not (bytes_eq (encode_utf8_all name) known)

-- the bit of the code that opened schemaId, where that is another name; the types of XML Schema are always known
abbrev pub another_bit : Option (List ℕ) → SchemaWord → Option ℕ → Option ℕ
another_bit known schema.Absent bit = None
another_bit known schema.Nil bit = None
another_bit known (schema.Id name) bit = if is_empty_name name then None else if is_another known name then bit else None

abbrev pub known_by : Option (List ℕ) → Result Header Fault → Result Header Fault
known_by known (Ok h) = refused_at (another_bit known h.options.schema h.schema_bit) h
known_by known (Err f) = Err f

unfoldable pub stream_header : Option (List ℕ) → Options → List ℕ → Result Header Fault
stream_header known words bytes = known_by known (header_in words bytes)
