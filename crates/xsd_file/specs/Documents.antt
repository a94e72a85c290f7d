-- What the bytes of a schema document's stream make known, or why it is refused: by a fault of its stream or its components, or
-- since these have no grammars. The stream is an EXI stream without a schema (EXI 1.0, sections 5 and 6); where its header tells no
-- options, prefixes are preserved and nothing else is.
use Rattle.std.specs.Prelude.{◌≡◌, ℕ, List, None, Result, Ok, Err, if◌then◌else◌}
use Rattle.exi_bits.specs.declared.fault.Fault.{Fault}
use Rattle.exi_bits.specs.declared.fault.Kind.TheVariants as kind
use Rattle.exi_gram.specs.Switches.{prefixes}
use Rattle.exi_gram.specs.declared.options.Options.{Options}
use Rattle.exi_gram.specs.declared.options.SchemaWord.TheVariants as schema
use Rattle.exi_header.specs.declared.header.Header.{Header}
use Rattle.exi_meter.specs.Metering.{Bounds, bounds_of}
use Rattle.exi_names.specs.Events.{Happening}
use Rattle.exi_opening.specs.Header.{header_for}
use Rattle.exi_opening.specs.Openings.{job_of}
use Rattle.exi_options.specs.Document.{flag}
use Rattle.exi_processing.specs.Runs.{IsSequence, Job}
use Rattle.exi_processing.specs.declared.end.End.{End}
use Rattle.exi_processing.specs.declared.end.End.TheVariants as end
use Rattle.exi_processing.specs.declared.start.Start.TheVariants as start
use Rattle.xsd_file.specs.declared.refusal.SchemaHalt.{SchemaHalt}
use Rattle.xsd_file.specs.declared.refusal.SchemaHalt.TheVariants as halt
use Rattle.xsd_file.specs.declared.refusal.SchemaRefusal.{SchemaRefusal}
use Rattle.xsd_file.specs.declared.refusal.SchemaRefusal.TheVariants as refusal
use Rattle.xsd_file.specs.declared.document.TheConstants.{MOST_EVENTS, MOST_TEXT}
use Rattle.exi_meter.specs.declared.limits.TheConstants.{MAX_DEPTH}
use Rattle.xsd_model.specs.declared.fault.SchemaFault.{SchemaFault}
use Rattle.xsd_known.specs.declared.known.KnownSchema.{KnownSchema}
use Rattle.xsd_known.specs.Knowing.{Known, known_of}
use Rattle.xsd_known.specs.Promises.{known_in}

-- ---- the header
-- prefixes are preserved
abbrev pub document_options : Options
document_options = record { flags = flag 128; schema = schema.Absent; block = 1_000_000; most = None; capacity = None }

-- options that do not preserve prefixes conflict with what a schema document is, where its body begins
abbrev pub with_prefixes : Result Header Fault → Result Header Fault
with_prefixes (Ok h) = if prefixes h.options then Ok h else Err (record { kind = kind.Conflict; bit = h.body })
with_prefixes (Err f) = Err f

abbrev pub document_header : List ℕ → Result Header Fault
document_header bytes = with_prefixes (header_for document_options bytes)

-- ---- the body
-- a schema document's own limits
abbrev pub document_bounds : Bounds
document_bounds = bounds_of MOST_EVENTS MOST_TEXT MAX_DEPTH

-- what it makes known, or a fault of the document
abbrev pub or_refusal : Result Known SchemaFault → Result Known SchemaRefusal
or_refusal (Ok k) = Ok k
or_refusal (Err f) = Err (refusal.Document f)

-- a fault of the stream refuses it, whatever came before
abbrev pub by_end : List Happening → End → Result Known SchemaRefusal
by_end es (end.Done bit tally root) = or_refusal (known_of es)
by_end es (end.Fault f tally root) = Err (refusal.Stream f)

unfoldable pub IsProcessed : Job → List Happening → End → Type 0
IsProcessed j es last = (count : ℕ) × IsSequence j start.Body document_bounds es last count

abbrev pub IsBody : Job → Result Known SchemaRefusal → Type 0
IsBody j found = (es : List Happening) × (last : End) × IsProcessed j es last × (found ≡ by_end es last)

abbrev pub IsDocumentFrom : List ℕ → Result Header Fault → Result Known SchemaRefusal → Type 0
IsDocumentFrom bytes (Ok h) found = IsBody (job_of bytes h) found
IsDocumentFrom bytes (Err f) found = found ≡ Err (refusal.Stream f)

-- what a stream of these bytes makes known, or why it is refused
abbrev pub IsDocument : List ℕ → Result Known SchemaRefusal → Type 0
IsDocument bytes found = IsDocumentFrom bytes (document_header bytes) found

-- ---- what a call that reads it answers
-- of events
abbrev pub MakesKnown : List Happening → Result KnownSchema SchemaHalt → Type 0
MakesKnown es (Ok found) = or_refusal (known_of es) ≡ Ok (known_in found)
MakesKnown es (Err (halt.Refused why)) = or_refusal (known_of es) ≡ Err why
MakesKnown es (Err halt.Memory) = Unit {0}

-- of events and the end of their stream
abbrev pub Comes : List Happening → End → Result KnownSchema SchemaHalt → Type 0
Comes es last (Ok found) = by_end es last ≡ Ok (known_in found)
Comes es last (Err (halt.Refused why)) = by_end es last ≡ Err why
Comes es last (Err halt.Memory) = Unit {0}

abbrev pub ReadsFrom : Job → Result KnownSchema SchemaHalt → Type 0
ReadsFrom j (Ok found) = IsBody j (Ok (known_in found))
ReadsFrom j (Err (halt.Refused why)) = IsBody j (Err why)
ReadsFrom j (Err halt.Memory) = Unit {0}

abbrev pub Reads : List ℕ → Result KnownSchema SchemaHalt → Type 0
Reads bytes (Ok found) = IsDocument bytes (Ok (known_in found))
Reads bytes (Err (halt.Refused why)) = IsDocument bytes (Err why)
Reads bytes (Err halt.Memory) = Unit {0}
