-- What is read of a stream that is written.
use Rattle.std.specs.Prelude.{◌≡◌, ◌≢◌, ◌↔◌, ℕ, Bool, true, List, [], ◌++◌, length, Option, Some, None, Ok, encode_utf8_all}
use Rattle.exi_bits.specs.Bits.{number_bits}
use Rattle.exi_evtext.specs.Parsing.{events_in}
use Rattle.exi_gram.specs.Outlines.{Outline}
use Rattle.exi_gram.specs.Schemas.{IsSchema}
use Rattle.exi_gram.specs.declared.options.SchemaWord.TheVariants as schema
use Rattle.exi_header.specs.Headers.{cookie, header_in}
use Rattle.exi_header.specs.Laws.{IsReadBack as IsHeaderBack}
use Rattle.exi_header.specs.declared.header.Header.{Header}
use Rattle.exi_names.specs.Events.{Happening}
use Rattle.exi_meter.specs.Metering.{stream_bounds}
use Rattle.exi_processing.specs.Configurations.{Config, first_config}
use Rattle.exi_processing.specs.Runs.{Job, events_of}
use Rattle.exi_processing.specs.declared.start.Start.TheVariants as start
use Rattle.exi_run.specs.declared.ending.Ending.{Ending}
use Rattle.exi_run.specs.declared.ending.Ending.TheVariants as ending
use Rattle.exi_run.specs.Tasks.{IsReady, writing}
use Rattle.exi_run.specs.Wholes.{IsBody, IsWhole}
use Rattle.exi_run.specs.Wishes.{Wish, head_bits, head_options, setting_for, stream_of, written_for}
use Rattle.exi_writer.specs.Same.{AreSame, AreSameText, pruned_list}
use Rattle.exi_writing.specs.Runs.{Run}

-- the body behind the header, by the options and the schema by which it was written
abbrev pub written_job : Wish → Option Outline → Run → Job
written_job w known r = record { setting = setting_for w known; bytes = stream_of w r; body = length (head_bits w) }

-- it ends at the last bit that was written
abbrev pub written_end : Wish → Run → Ending
written_end w r = ending.Done (length (head_bits w ++ r.bits))

-- where the body begins
abbrev pub written_from : Wish → Option Outline → Config
written_from w known = first_config (setting_for w known) (length (head_bits w)) start.Body stream_bounds

-- Whatever the words say of the schema, the header is read back: its options where they are told, and else those of the words; and the
-- body begins behind it
abbrev pub IsHeadBack : Wish → List ℕ → Type 0
IsHeadBack w bytes = (h : Header) × (header_in w.options bytes ≡ Ok h) × IsHeaderBack w.options (head_options w) w.told (length (head_bits w)) h

-- it begins with the cookie exactly where that is asked for
abbrev pub BeginsAsAsked : Wish → Type 0
BeginsAsAsked w = (w.cookie ≡ true) ↔ ((behind : List Bool) × (head_bits w ≡ number_bits 32 cookie ++ behind))

-- Reading the stream's body gives the events that were written, and ends at the last bit. So does reading the stream under the
-- same options and by the same schema, by whatever name it may be known, where the header tells no schema; and where the header tells
-- its name, which is not empty, and it is known by that name, as its bytes in UTF-8. These events are those of the text that the options
-- leave, one by one: each value is the one that its canonical text has under its datatype, which without a schema is that text
pub record IsReadBack (w : Wish) (known : Option Outline) (text : List ℕ) (r : Run) : Type 0 where
  pub head : IsHeadBack w (stream_of w r)
  pub marked : BeginsAsAsked w
  pub body : IsBody (written_job w known r) (events_of r.events) (written_end w r)
  pub whole : w.schema ≡ schema.Absent → (name : Option (List ℕ)) → IsWhole (record { options = w.options; schema = known; name = name }) (stream_of w r) (events_of r.events) (written_end w r)
  pub named : (outline : Outline) (name : List ℕ) → known ≡ Some outline → w.schema ≡ schema.Id name → name ≢ [] → IsWhole (record { options = w.options; schema = known; name = Some (encode_utf8_all name) }) (stream_of w r) (events_of r.events) (written_end w r)
  pub same : (es : List Happening) → events_in text ≡ Ok es → AreSame (setting_for w known) (written_from w known) (pruned_list w.options es) (events_of r.events)
  pub texts : known ≡ None → (es : List Happening) → events_in text ≡ Ok es → AreSameText (pruned_list w.options es) (events_of r.events)

-- what is written of a text, by a schema or without one, is read back
abbrev pub ReadsBack : Wish → Option Outline → List ℕ → Type 0
ReadsBack w known text = (r : Run) → written_for w known text ≡ Ok r → IsReadBack w known text r

-- the grammars of a schema that is known fit together, as every schema's do
abbrev pub IsSound : Option Outline → Type 0
IsSound None = Unit {0}
IsSound (Some schema) = IsSchema schema

abbrev pub WrittenIsRead : Type 0
WrittenIsRead = (w : Wish) (name text : List ℕ) (known : Option Outline) → IsReady (writing name w) → IsSound known → ReadsBack w known text
