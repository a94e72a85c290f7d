-- The header of a stream (EXI 1.0, section 5): maybe a cookie, two bits that tell an EXI stream, a bit that says whether an
-- options document follows, the version, and the document. Where the stream is byte-aligned, bits up to a whole byte follow.
use Rattle.std.specs.Prelude.{◌≡◌, ℕ, ◌+◌, ◌==◌, Bool, true, false, List, [], ◌∷◌, ◌++◌, Option, Some, None, Result, Ok, Err, if◌then◌else◌}
use Rattle.exi_bits.specs.declared.align.Align.TheVariants as align
use Rattle.exi_bits.specs.declared.fault.Fault.{Fault}
use Rattle.exi_bits.specs.declared.fault.Kind.{Kind}
use Rattle.exi_bits.specs.declared.fault.Kind.TheVariants as kind
use Rattle.exi_bits.specs.declared.fault.Stop.{Stop}
use Rattle.exi_bits.specs.Bits.{Spot, at_next_byte, number_at, number_bits}
use Rattle.exi_bits.specs.Unsigned.{◌>>=◌, StopsAs, fault_at, field_at}
use Rattle.exi_bits.specs.Written.{padded}
use Rattle.exi_gram.specs.declared.options.Options.{Options}
use Rattle.exi_gram.specs.Switches.{byte_aligned}
use Rattle.exi_options.specs.declared.told.Told.{Told}
use Rattle.exi_options.specs.Reading.{options_at}
use Rattle.exi_options.specs.Writing.{options_bits}
use Rattle.exi_header.specs.declared.header.Header.{Header}

-- ---- the cookie (section 5.1): the bytes of $EXI
abbrev pub cookie : ℕ
cookie = 608_524_361

abbrev pub behind : Spot → Option (ℕ × Spot) → Spot
behind s None = s
behind s (Some found) = if found.0 == cookie then found.1 else s

-- behind the cookie, where it stands at the head
unfoldable pub behind_cookie : Spot → Spot
behind_cookie s = behind s (number_at 32 align.Bits s)

-- ---- distinguishing bits, presence bit and version (sections 5.2 and 5.3)
abbrev pub if_known : ℕ → Kind → Spot → Option (ℕ × Spot) → Result Spot Fault
if_known value k s None = fault_at k s
if_known value k s (Some found) = if found.0 == value then Ok found.1 else fault_at k s

-- a number of so many bits that has to be this one; else, and where bits are missing, the kind at its first bit
unfoldable pub known_at : ℕ → ℕ → Kind → Spot → Result Spot Fault
known_at width value k s = if_known value k s (number_at width align.Bits s)

-- what a call answers that takes one
abbrev pub KnownAs : Result (Unit {0}) Fault → Spot → Result Spot Fault → Type 0
KnownAs (Ok x) new read = read ≡ Ok new
KnownAs (Err f) new read = read ≡ Err f

-- whether an options document follows; the version is the first final one, which is written as 0
unfoldable pub marks_at : Spot → Result (Bool × Spot) Fault
marks_at s = do
  marked ← known_at 2 2 kind.NoExi s
  presence ← field_at 1 align.Bits marked
  version ← known_at 5 0 kind.Version presence.1
  Ok (presence.0 == 1, version)

-- ---- the options (section 5.4)
-- what the document tells, where there is one; else what is handed in
unfoldable pub told_at : Options → Bool → Spot → Result (Told × Spot) Fault
told_at words true s = options_at s
told_at words false s = Ok (record { options = words; schema_bit = None }, s)

-- where the body begins
abbrev pub body_at : Options → Spot → Spot
body_at o s = if byte_aligned o then at_next_byte s else s

abbrev pub header_of : Bool → Told × Spot → Header
header_of told t = record { options = t.0.options; told = told; schema_bit = t.0.schema_bit; body = (body_at t.0.options t.1).place }

unfoldable pub header_at : Options → Spot → Result Header Fault
header_at words s = do
  marks ← marks_at (behind_cookie s)
  told ← told_at words marks.0 marks.1
  Ok (header_of marks.0 told)

-- the header of a stream's bytes
abbrev pub header_in : Options → List ℕ → Result Header Fault
header_in words bytes = header_at words (record { bytes = bytes; place = 0 })

-- what a call answers that reads; of memory nothing is said
abbrev pub Tells : Result Header Stop → Result Header Fault → Type 0
Tells (Ok h) read = read ≡ Ok h
Tells (Err e) read = StopsAs {Y = Header} e read

-- ---- what is written
abbrev pub cookie_bits : Bool → List Bool
cookie_bits true = number_bits 32 cookie
cookie_bits false = []

-- 10, the presence bit, and the version
abbrev pub mark_bits : Bool → List Bool
mark_bits told = true ∷ false ∷ told ∷ false ∷ false ∷ false ∷ false ∷ false ∷ []

abbrev pub document_bits : Options → Bool → List Bool
document_bits o true = options_bits o
document_bits o false = []

-- all bits before those up to a whole byte
abbrev pub front_bits : Options → Bool → Bool → List Bool
front_bits o told marked = cookie_bits marked ++ (mark_bits told ++ document_bits o told)

unfoldable pub header_bits : Options → Bool → Bool → List Bool
header_bits o told marked = if byte_aligned o then padded (front_bits o told marked) else front_bits o told marked
