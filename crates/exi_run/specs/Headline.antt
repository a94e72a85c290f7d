-- The headline in one place: what `read` and `write` promise where no fetch failed, no file is too long, and the schema's document,
-- where one is given, is refused for nothing.
use Rattle.std.specs.Prelude.{◌≡◌, ◌≢◌, ◌⊎◌, ◌↔◌, ℕ, ◌≤◌, List, [], ◌++◌, length, Option, Some, None, Ok}
use Rattle.std.specs.List.{flat_map}
use Rattle.exi_evtext.specs.Lines.{lines_of}
use Rattle.exi_gram.specs.Outlines.{Outline}
use Rattle.exi_names.specs.Events.{Happening, Grows}
use Rattle.exi_run.specs.Answers.{GrowsByFront, GrowsByLines, IsKnown, no_memory}
use Rattle.exi_run.specs.Backs.{IsReadBack}
use Rattle.exi_run.specs.Dues.{basis_by, most_bytes}
use Rattle.exi_run.specs.Endings.{last_line, status_of}
use Rattle.exi_run.specs.Forms.{pieces}
use Rattle.exi_run.specs.Refusals.{unwritten_line}
use Rattle.exi_run.specs.Tasks.{Terms}
use Rattle.exi_run.specs.Wholes.{IsWhole}
use Rattle.exi_run.specs.Wishes.{Wish, stream_of, written_for}
use Rattle.exi_run.specs.Writable.{IsUnwritable, IsWritable}
use Rattle.exi_run.specs.declared.ending.Ending.{Ending}
use Rattle.exi_run.specs.declared.form.Form.TheVariants as form
use Rattle.exi_run.specs.declared.status.Status.{Status}
use Rattle.exi_run.specs.declared.status.Status.TheVariants as status
use Rattle.exi_run.specs.declared.unwritten.Unwritten.{Unwritten}
use Rattle.exi_writing.specs.Runs.{Run}

-- ---- the premises
abbrev pub IsShort : Option (List ℕ) → Type 0
IsShort None = Unit {0}
IsShort (Some bytes) = length bytes ≤ most_bytes

-- `rose` is that the count of the shelf's faults rose
pub record IsInOrder (rose : Type 0) (document : Option (List ℕ)) (bytes : List ℕ) (known : Option Outline) : Type 0 where
  pub still : rose → ⊥
  pub document_short : IsShort document
  pub short : length bytes ≤ most_bytes
  -- the schema that is known: none without a document, and else the one that this makes known
  pub accepted : IsKnown document known

-- ---- reading
-- the text of events and an end, and the lines of the events, each of which is one put
abbrev pub whole_text : List Happening → Ending → List ℕ
whole_text es e = lines_of es ++ last_line e

abbrev pub event_lines : List Happening → List (List ℕ)
event_lines es = flat_map (pieces form.Text) es

-- The sink took the text of sequential processing, its events and its end, and the status is that of the end. Where the output broke, it
-- took a front of that text, or first lines of it and a front of the word on want of memory; and where memory was wanting, first lines
-- of it, and then that word or nothing
pub record ReadsAsProcessed (o : Terms) (known : Option Outline) (bytes : List ℕ) (s : Status) (old new : Option (List ℕ)) : Type 0 where
  pub events : List Happening
  pub end : Ending
  pub whole : IsWhole (basis_by o known) bytes events end
  pub told : s ≢ status.WriteFault → s ≢ status.NoMemory → (s ≡ status_of end) × Grows old (whole_text events end) new
  pub broke : s ≡ status.WriteFault → GrowsByFront old (whole_text events end) new ⊎ ((front rest : List ℕ) × (no_memory ≡ front ++ rest) × GrowsByLines old (event_lines events) front new)
  pub starved : s ≡ status.NoMemory → GrowsByLines old (event_lines events) [] new ⊎ GrowsByLines old (event_lines events) no_memory new

-- ---- writing
-- The status is Ok exactly where the text says a list that can be written, and that passes no limit of a stream. Then the sink took the
-- stream, which is read back; and else the line that says why there is none
pub record WritesAsDerived (w : Wish) (known : Option Outline) (text : List ℕ) (s : Status) (old new : Option (List ℕ)) : Type 0 where
  pub exactly : (s ≡ status.Ok) ↔ IsWritable w known text
  pub stream : s ≡ status.Ok → (r : Run) × (written_for w known text ≡ Ok r) × Grows old (stream_of w r) new × IsReadBack w known text r
  pub none : s ≢ status.Ok → (s ≡ status.Events) × ((why : Unwritten) × IsUnwritable w known text why × Grows old (unwritten_line why) new)

-- with a status that says neither that the output broke nor that memory was wanting
abbrev pub WritesIfTold : Wish → Option Outline → List ℕ → Status → Option (List ℕ) → Option (List ℕ) → Type 0
WritesIfTold w known text s old new = s ≢ status.WriteFault → s ≢ status.NoMemory → WritesAsDerived w known text s old new
