-- The options of a stream (EXI 1.0, section 5.4) as what they switch on.
use Rattle.std.specs.Prelude.{ℕ, Bool, ◌==◌, ◌&&◌, ◌||◌, None, if◌then◌else◌}
use Rattle.std.specs.Int.RustNames.{bit_and}
use Rattle.exi_bits.specs.declared.align.Align.{Align}
use Rattle.exi_bits.specs.declared.align.Align.TheVariants as align
use Rattle.exi_gram.specs.declared.options.Options.{Options}
use Rattle.exi_gram.specs.declared.options.SchemaWord.TheVariants as schema

abbrev is_on : ℕ → Options → Bool
is_on flag o = bit_and o.flags.0 flag == flag

-- no productions are added for what the schema does not describe
abbrev pub strict : Options → Bool
strict o = is_on 1 o

-- the stream is a fragment, and not a document
abbrev pub fragment : Options → Bool
fragment o = is_on 2 o

-- elements may be self-contained
abbrev pub self_contained : Options → Bool
self_contained o = is_on 4 o

-- the stream is byte-aligned, and not bit-packed
abbrev pub byte_aligned : Options → Bool
byte_aligned o = is_on 8 o

-- comments are preserved
abbrev pub comments : Options → Bool
comments o = is_on 16 o

-- processing instructions are preserved
abbrev pub processing_instructions : Options → Bool
processing_instructions o = is_on 32 o

-- document types and entity references are preserved
abbrev pub dtd : Options → Bool
dtd o = is_on 64 o

-- prefixes and namespace declarations are preserved
abbrev pub prefixes : Options → Bool
prefixes o = is_on 128 o

-- how the numbers of the stream lie
abbrev pub align_of : Options → Align
align_of o = if byte_aligned o then align.Bytes else align.Bits

-- what holds where the header tells nothing else: bit-packed, nothing switched on, blocks of 1,000,000, no bounds
abbrev pub default_options : Options
default_options = record { flags = record { 0 = 0 }; schema = schema.Absent; block = 1_000_000; most = None; capacity = None }

-- options that may not be on together: strict with what it leaves out, and self-contained elements with prefixes (the
-- second is the codec's own)
abbrev pub conflicts : Options → Bool
conflicts o = (strict o && (dtd o || prefixes o || comments o || processing_instructions o || self_contained o)) || (self_contained o && prefixes o)
