-- What writing a stream is: the header, and behind it what is written of the events that a text says (EXI 1.0, sections 5 and 6).
use Rattle.std.specs.Prelude.{ℕ, Bool, true, false, List, ◌++◌, length, Option, Some, None, option_map, Result, Ok, Err, chars}
use Rattle.exi_bits.specs.Bits.{octets, octets_of}
use Rattle.exi_bits.specs.Written.{padded}
use Rattle.exi_evtext.specs.Parsing.{events_in}
use Rattle.exi_gram.specs.Outlines.{Outline}
use Rattle.exi_gram.specs.declared.options.Options.{Options}
use Rattle.exi_gram.specs.declared.options.SchemaWord.{SchemaWord}
use Rattle.exi_gram.specs.declared.options.SchemaWord.TheVariants as schema
use Rattle.exi_header.specs.Headers.{header_bits}
use Rattle.exi_meter.specs.Metering.{stream_bounds}
use Rattle.exi_names.specs.Events.{Happening}
use Rattle.exi_run.specs.declared.unwritten.Unwritten.{Unwritten}
use Rattle.exi_run.specs.declared.unwritten.Unwritten.TheVariants as unwritten
use Rattle.exi_opening.specs.Openings.{setting_by}
use Rattle.xsd_file.specs.Bases.{if_any}
use Rattle.exi_processing.specs.Configurations.{Setting}
use Rattle.exi_run.specs.Words.{Given}
use Rattle.exi_writing.specs.OneEvent.{Refused, limit, not_derived}
use Rattle.exi_writing.specs.Runs.{Refusal, Run, body}

-- ---- what is asked for
-- how a stream is written
pub record Wish : Type 0 where
  -- by which options
  pub options : Options
  -- whether the header tells them, and begins with the cookie
  pub told : Bool
  pub cookie : Bool
  -- what it tells of the schema
  pub schema : SchemaWord
  -- the file with a schema's document, where one is given
  pub document : Option (List ℕ)

-- the schema's name, where the header tells options
abbrev pub named_schema : Bool → Option (List ℕ) → SchemaWord
named_schema told None = schema.Absent
named_schema false (Some name) = schema.Absent
named_schema true (Some name) = schema.Id (chars name)

-- the options that the words give. A schema's name is none of them: it is what a stream's own name of it is compared with, or what
-- a header tells
abbrev pub options_of : Given → Options
options_of g = record { flags = g.flags; schema = schema.Absent; block = 1_000_000; most = g.most; capacity = g.capacity }

abbrev pub wish_of : Given → Wish
wish_of g = record { options = options_of g; told = g.told; cookie = g.cookie; schema = named_schema g.told g.schema; document = option_map chars g.document }

-- ---- the stream
-- the header tells what it tells of the schema
abbrev pub head_options : Wish → Options
head_options w = record w.options { schema = w.schema }

abbrev pub head_bits : Wish → List Bool
head_bits w = header_bits (head_options w) w.told w.cookie

-- why a list of events is not written
abbrev pub why_at : ℕ → Refused → Unwritten
why_at event not_derived = unwritten.NotDerived event
why_at event (limit k m) = unwritten.Limit event k

abbrev pub run_or_why : Result Run Refusal → Result Run Unwritten
run_or_why (Ok r) = Ok r
run_or_why (Err e) = Err (why_at e.event e.why)

-- the body goes by the schema that is known, if there is one, whatever the header tells of it
abbrev pub setting_for : Wish → Option Outline → Setting
setting_for w known = setting_by (if_any known) w.options

-- the body behind the header, within the limits of a stream
abbrev pub body_for : Wish → Option Outline → List Happening → Result Run Unwritten
body_for w known es = run_or_why (body (setting_for w known) (length (head_bits w)) stream_bounds es)

abbrev pub body_by : Wish → Option Outline → Result (List Happening) ℕ → Result Run Unwritten
body_by w known (Ok es) = body_for w known es
body_by w known (Err line) = Err (unwritten.Syntax line)

-- what is written of a text, by a schema or without one; or why nothing is: a line that says no event comes before all that is said
-- of events
unfoldable pub written_for : Wish → Option Outline → List ℕ → Result Run Unwritten
written_for w known text = body_by w known (events_in text)

-- the bytes of bits, the last one filled up by 0
abbrev pub stream_bytes : List Bool → List ℕ
stream_bytes text = octets_of (octets (length text)) (padded text)

-- header and body
abbrev pub stream_of : Wish → Run → List ℕ
stream_of w r = stream_bytes (head_bits w ++ r.bits)
