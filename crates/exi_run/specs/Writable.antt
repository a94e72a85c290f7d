-- Which texts are written: those that say a list of events which can be written, where no limit of a stream is passed (EXI 1.0,
-- sections 5.4, 6 and 8.5; the limits are own).
use Rattle.std.specs.Prelude.{◌≡◌, ℕ, true, false, List, length, Option, Ok, Err}
use Rattle.exi_derived.specs.Laws.{Unmatched, passes_limit}
use Rattle.exi_evtext.specs.Parsing.{events_in}
use Rattle.exi_gram.specs.Outlines.{Outline}
use Rattle.exi_meter.specs.Metering.{stream_bounds}
use Rattle.exi_names.specs.Events.{Grows, Happening}
use Rattle.exi_run.specs.Answers.{IsKnown}
use Rattle.exi_run.specs.Refusals.{unwritten_line}
use Rattle.exi_run.specs.Wishes.{Wish, head_bits, setting_for, written_for}
use Rattle.exi_run.specs.declared.unwritten.Unwritten.{Unwritten}
use Rattle.exi_run.specs.declared.unwritten.Unwritten.TheVariants as unwritten
use Rattle.exi_writing.specs.Runs.{Derives, Run, body}

-- it says a list, which by the options and the schema can be written whatever limits there are, and which passes none of a stream
pub record IsWritable (w : Wish) (known : Option Outline) (text : List ℕ) : Type 0 where
  pub events : List Happening
  pub said : events_in text ≡ Ok events
  pub derives : Derives (setting_for w known) events
  pub within : passes_limit (body (setting_for w known) (length (head_bits w)) stream_bounds events) ≡ false

-- why it is not: this line is the first of it that says no event; or this event is the first of the list for which no production
-- stands, whatever limits there are, or the list ends in front of it, too early; or the list passes a limit
abbrev pub IsReason : Wish → Option Outline → List ℕ → Unwritten → Type 0
IsReason w known text (unwritten.Syntax line) = events_in text ≡ Err line
IsReason w known text (unwritten.NotDerived event) = (es : List Happening) × (events_in text ≡ Ok es) × Unmatched (setting_for w known) es event
IsReason w known text (unwritten.Limit event kind) = (es : List Happening) × (events_in text ≡ Ok es) × (passes_limit (body (setting_for w known) (length (head_bits w)) stream_bounds es) ≡ true)

-- ---- the laws
abbrev pub WrittenIsWritable : Type 0
WrittenIsWritable = (w : Wish) (known : Option Outline) (text : List ℕ) (r : Run) → written_for w known text ≡ Ok r → IsWritable w known text

pub record IsUnwritable (w : Wish) (known : Option Outline) (text : List ℕ) (why : Unwritten) : Type 0 where
  pub reason : IsReason w known text why
  pub never : IsWritable w known text → ⊥

abbrev pub RefusedIsUnwritable : Type 0
RefusedIsUnwritable = (w : Wish) (known : Option Outline) (text : List ℕ) (why : Unwritten) → written_for w known text ≡ Err why → IsUnwritable w known text why

-- ---- by the schema of the document, if one is given, which is not refused
abbrev pub CanBeWritten : Wish → Option (List ℕ) → List ℕ → Type 0
CanBeWritten w document text = (known : Option Outline) × IsKnown document known × IsWritable w known text

-- it can not, and the sink took the line that says why
abbrev pub CanNotBeWritten : Wish → Option (List ℕ) → Option (List ℕ) → Option (List ℕ) → List ℕ → Type 0
CanNotBeWritten w old new document text = (known : Option Outline) × IsKnown document known × ((why : Unwritten) × IsUnwritable w known text why × Grows old (unwritten_line why) new)
