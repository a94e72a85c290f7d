-- The definitions on headers that were put together by hand, bit by bit.
use Rattle.std.proofs.Common.{◌≡◌, ℕ, List, [], ◌∷◌, Bool, true, false, Option, Some, None, Result, Ok, Err, refl}
use Rattle.exi_bits.specs.declared.fault.Fault.{Fault}
use Rattle.exi_bits.specs.declared.fault.Kind.{Kind}
use Rattle.exi_bits.specs.declared.fault.Kind.TheVariants as kind
use Rattle.exi_bits.specs.declared.fault.Part.TheVariants as part
use Rattle.exi_bits.specs.Bits.{bits, number_at, number_bits, value_of}
use Rattle.exi_bits.specs.Repeat.{times}
use Rattle.exi_bits.specs.Unsigned.{below_at, field_at, groups_at, narrow_groups_at, unsigned_at}
use Rattle.exi_bits.specs.Widths.{width_from}
use Rattle.exi_gram.specs.declared.options.Options.{Options}
use Rattle.exi_gram.specs.declared.options.SchemaWord.TheVariants as schema
use Rattle.exi_gram.specs.Codes.{code_at, part_at}
use Rattle.exi_gram.specs.Switches.{default_options}
use Rattle.exi_options.specs.Document.{ahead, codes, flag}
use Rattle.exi_options.specs.Reading.{codes_at, document_at, name_at, options_at, value_at}
use Rattle.exi_header.specs.declared.header.Header.{Header}
use Rattle.exi_header.specs.Headers.{behind_cookie, header_at, header_in, known_at, marks_at, told_at}

abbrev found : Options → Bool → ℕ → Result Header Fault
found o told body = Ok (record { options = o; told = told; schema_bit = None; body = body })

abbrev fault : Kind → ℕ → Result Header Fault
fault k bit = Err (record { kind = k; bit = bit })

abbrev with_flags : ℕ → Options
with_flags f = record default_options { flags = flag f }

-- the header that tells nothing
plain : header_in default_options (128 ∷ []) ≡ found default_options false 8
unfolding bits number_at number_bits value_of field_at header_at behind_cookie known_at marks_at told_at
plain = refl

-- no bytes at all
none : header_in default_options [] ≡ fault kind.NoExi 0
unfolding bits number_at number_bits value_of field_at header_at behind_cookie known_at marks_at told_at
none = refl

-- byte-aligned by the options that are handed in: the body begins at a whole byte already
aligned : header_in (with_flags 8) (128 ∷ []) ≡ found (with_flags 8) false 8
unfolding bits number_at number_bits value_of field_at header_at behind_cookie known_at marks_at told_at
aligned = refl

-- 24 45 58 49 80: behind the cookie
marked : header_in default_options (36 ∷ 69 ∷ 88 ∷ 73 ∷ 128 ∷ []) ≡ found default_options false 40
unfolding bits number_at number_bits value_of field_at header_at behind_cookie known_at marks_at told_at
marked = refl

-- b0: another version
version : header_in default_options (176 ∷ 120 ∷ []) ≡ fault kind.Version 3
unfolding bits number_at number_bits value_of field_at header_at behind_cookie known_at marks_at told_at
version = refl

-- a0 01 e9: self-contained elements, behind header, lesscommon and uncommon
contained : header_in default_options (160 ∷ 1 ∷ 233 ∷ []) ≡ found (with_flags 4) true 22
unfolding bits number_at number_bits value_of field_at header_at behind_cookie known_at marks_at told_at options_at document_at codes_at value_at code_at part_at below_at width_from codes ahead
contained = refl

-- a0 20: compression
compressed : header_in default_options (160 ∷ 32 ∷ []) ≡ fault (kind.Unsupported part.Compression) 11
unfolding bits number_at number_bits value_of field_at header_at behind_cookie known_at marks_at told_at options_at document_at codes_at value_at code_at part_at below_at width_from codes ahead
compressed = refl

-- a0 01 e4: strict with self-contained elements
conflict : header_in default_options (160 ∷ 1 ∷ 228 ∷ []) ≡ fault kind.Conflict 22
unfolding bits number_at number_bits value_of field_at header_at behind_cookie known_at marks_at told_at options_at document_at codes_at value_at code_at part_at below_at width_from codes ahead
conflict = refl

-- a0 00 4a: byte-aligned, with one bit up to the whole byte
told_aligned : header_in default_options (160 ∷ 0 ∷ 74 ∷ []) ≡ found (with_flags 8) true 24
unfolding bits number_at number_bits value_of field_at header_at behind_cookie known_at marks_at told_at options_at document_at codes_at value_at code_at part_at below_at width_from codes ahead
told_aligned = refl

-- a0 00 80: aligned for a later compression
pre_compress : header_in default_options (160 ∷ 0 ∷ 128 ∷ []) ≡ fault (kind.Unsupported part.PreCompress) 16
unfolding bits number_at number_bits value_of field_at header_at behind_cookie known_at marks_at told_at options_at document_at codes_at value_at code_at part_at below_at width_from codes ahead
pre_compress = refl

-- a0 03 02 d2: a capacity of 2
bounded : header_in default_options (160 ∷ 3 ∷ 2 ∷ 210 ∷ []) ≡ found (record default_options { capacity = Some 2 }) true 29
unfolding bits number_at number_bits value_of field_at header_at behind_cookie known_at marks_at told_at options_at document_at codes_at value_at code_at part_at below_at width_from codes ahead unsigned_at narrow_groups_at groups_at
bounded = refl
