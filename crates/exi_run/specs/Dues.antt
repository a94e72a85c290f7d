-- What the program owes for its words, its files and its stream.
use Rattle.std.specs.Prelude.{◌≡◌, ◌⊎◌, ℕ, List, [], ◌∷◌, ◌++◌, Option, Some, None, Result, Ok, Err, codes, decimal}
use Rattle.std.specs.List.{flat_map}
use Rattle.exi_gram.specs.Outlines.{Outline}
use Rattle.exi_names.specs.Events.{Happening}
use Rattle.xsd_file.specs.Bases.{Basis, plain_basis}
use Rattle.exi_ports.specs.Ports.{file_at, Fetched}
use Rattle.exi_ports.specs.declared.shelf.Fetch.TheVariants as fetch
use Rattle.exi_run.specs.declared.files.TheConstants.{MOST_BYTES}
use Rattle.exi_run.specs.declared.form.Form.{Form}
use Rattle.exi_run.specs.declared.halt.Refusal.{Refusal}
use Rattle.exi_run.specs.declared.halt.Refusal.TheVariants as refusal
use Rattle.exi_run.specs.declared.halt.Role.{Role}
use Rattle.exi_run.specs.declared.ending.Ending.{Ending}
use Rattle.exi_run.specs.declared.status.Status.{Status}
use Rattle.exi_run.specs.declared.status.Status.TheVariants as status
use Rattle.exi_run.specs.declared.unwritten.Unwritten.{Unwritten}
use Rattle.exi_run.specs.Refusals.{refusal_line, refusal_status}
use Rattle.exi_run.specs.Wholes.{IsWhole}
use Rattle.exi_run.specs.Wishes.{Wish, stream_of, written_for}
use Rattle.exi_run.specs.Tasks.{Task, Terms, stream, writing, counting, Need, needs}
use Rattle.exi_run.specs.Endings.{status_of}
use Rattle.exi_writing.specs.Runs.{Run}
use Rattle.xsd_file.specs.Counts.{attributes_counted, elements_counted, types_counted}
use Rattle.xsd_file.specs.Documents.{IsDocument}
use Rattle.xsd_file.specs.declared.refusal.SchemaRefusal.{SchemaRefusal}
use Rattle.xsd_file.specs.Words.{Known}
use Rattle.xsd_file.specs.Words.{Declared}
use Rattle.exi_run.specs.Forms.{pieces, last_pieces}

-- the pieces that are owed, each in one put: lines, and then a last one or none; and the status behind them
pub record Due : Type 0 where
  pub lines : List (List ℕ)
  pub last : List (List ℕ)
  pub status : Status

abbrev pub all_pieces : Due → List (List ℕ)
all_pieces due = due.lines ++ due.last

abbrev pub text_of : List (List ℕ) → List ℕ
text_of ps = flat_map (λ p. p) ps

-- of a refusal, its line
abbrev pub refusal_due : Refusal → Due
refusal_due r = record { lines = []; last = refusal_line r ∷ []; status = refusal_status r }

-- ---- files
-- the files that a shelf tells, by their names
abbrev pub Files : Type 0
Files = List (List ℕ × List ℕ)

-- the greatest length of a file, in bytes: 64 MiB
abbrev pub most_bytes : ℕ
most_bytes = MOST_BYTES

-- what becomes of a file that is needed: its bytes, too many of them, or a fault
pub data Had : Type 0 where
  found : List ℕ → Had
  long : Had
  failed : Had

-- no file has this name, where the files are told; that is a fault of the shelf
abbrev pub IsAbsent : Option Files → List ℕ → Type 0
IsAbsent None name = ⊥
IsAbsent (Some held) name = file_at held name ≡ None

-- as a fetch may answer; any file may have failed where the count of the shelf's faults `rose`
abbrev pub IsHad : Option Files → Type 0 → List ℕ → Had → Type 0
IsHad files rose name (found bytes) = Fetched files name most_bytes (fetch.Bytes bytes)
IsHad files rose name long = Fetched files name most_bytes fetch.TooLong
IsHad files rose name failed = rose ⊎ IsAbsent files name

-- ---- what is owed
-- with what became of a file: where it was found, what its bytes owe, and else its refusal
abbrev pub OwedWith : Had → Role → (List ℕ → Type 0) → Due → Type 0
OwedWith (found bytes) role rest due = rest bytes
OwedWith long role rest due = due ≡ refusal_due (refusal.TooLong role)
OwedWith failed role rest due = due ≡ refusal_due refusal.ReadFailed

-- with the files in their order, and then what their bytes owe
abbrev pub OwedFrom : Option Files → Type 0 → List Need → (List (List ℕ) → Type 0) → Due → Type 0
OwedFrom files rose [] rest due = rest []
OwedFrom files rose (n ∷ ns) rest due = (h : Had) × IsHad files rose n.name h × OwedWith h n.role (λ bytes. OwedFrom files rose ns (λ others. rest (bytes ∷ others)) due) due

-- of events and an end: what the form says of each
abbrev pub whole_due : Form → List Happening → Ending → Due
whole_due f es e = record { lines = flat_map (pieces f) es; last = last_pieces f e; status = status_of e }

-- of a stream: the events and the end of the file's bytes
abbrev pub OwedOf : Form → Basis → List ℕ → Due → Type 0
OwedOf f basis bytes due = (es : List Happening) × (e : Ending) × IsWhole basis bytes es e × (due ≡ whole_due f es e)

-- what is known beside it: by the words alone, or with a schema too, by which it may be named
abbrev pub basis_by : Terms → Option Outline → Basis
basis_by o None = plain_basis o.options
basis_by o (Some schema) = record { options = o.options; schema = Some schema; name = o.name }

abbrev pub OwedOfStream : Form → Terms → Option Outline → List ℕ → Due → Type 0
OwedOfStream f o known bytes due = OwedOf f (basis_by o known) bytes due

-- of an event text: the stream, or the line that says why there is none
abbrev pub stream_due : List ℕ → Due
stream_due bytes = record { lines = []; last = bytes ∷ []; status = status.Ok }

abbrev pub text_due : Wish → Result Run Unwritten → Due
text_due w (Ok r) = stream_due (stream_of w r)
text_due w (Err why) = refusal_due (refusal.Events why)

abbrev pub OwedOfText : Wish → Option Outline → List ℕ → Due → Type 0
OwedOfText w known text due = due ≡ text_due w (written_for w known text)

-- of a schema document: a line for each kind of component, with how many of them the whole schema knows by name
abbrev pub count_line : List ℕ → ℕ → List ℕ
count_line word count = word ++ decimal count ++ 10 ∷ []

abbrev pub count_lines : Declared → List (List ℕ)
count_lines d =
    count_line (codes "elements ") (elements_counted d)
    ∷ count_line (codes "attributes ") (attributes_counted d)
    ∷ count_line (codes "types ") (types_counted d)
    ∷ []

abbrev pub counts_due : Declared → Due
counts_due d = record { lines = count_lines d; last = []; status = status.Ok }

abbrev pub document_due : Result Known SchemaRefusal → Due
document_due (Ok k) = counts_due k.declared
document_due (Err why) = refusal_due (refusal.Schema why)

abbrev pub OwedOfDocument : List ℕ → Due → Type 0
OwedOfDocument bytes due = (found : Result Known SchemaRefusal) × IsDocument bytes found × (due ≡ document_due found)

-- with a schema's document: where that is refused, the line that says so, whatever else there is; and else what is owed by the
-- schema that it makes known
abbrev pub OwedInformed : (Option Outline → List ℕ → Due → Type 0) → Result Known SchemaRefusal → List ℕ → Due → Type 0
OwedInformed owed (Ok k) input due = owed (Some k.schema) input due
OwedInformed owed (Err why) input due = due ≡ refusal_due (refusal.Schema why)

abbrev pub OwedOfBoth : (Option Outline → List ℕ → Due → Type 0) → List ℕ → List ℕ → Due → Type 0
OwedOfBoth owed document input due = (found : Result Known SchemaRefusal) × IsDocument document found × OwedInformed owed found input due

-- by the bytes of its files: before those of its own file stand the schema document's, where one is given
abbrev pub OwedOfFiles : (Option Outline → List ℕ → Due → Type 0) → Option (List ℕ) → List (List ℕ) → Due → Type 0
OwedOfFiles owed None [] due = ⊥
OwedOfFiles owed None (input ∷ others) due = owed None input due
OwedOfFiles owed (Some name) [] due = ⊥
OwedOfFiles owed (Some name) (document ∷ []) due = ⊥
OwedOfFiles owed (Some name) (document ∷ input ∷ others) due = OwedOfBoth owed document input due

-- of a command whose files were found, by their bytes in their order
abbrev pub OwedBy : Task → Due → List (List ℕ) → Type 0
OwedBy (stream f file o) due files = OwedOfFiles (OwedOfStream f o) o.document files due
OwedBy (writing file w) due files = OwedOfFiles (OwedOfText w) w.document files due
OwedBy (counting file) due [] = ⊥
OwedBy (counting file) due (input ∷ others) = OwedOfDocument input due

-- of the words
abbrev pub Owed : Option Task → Option Files → Type 0 → Due → Type 0
Owed None files rose due = due ≡ refusal_due refusal.Usage
Owed (Some t) files rose due = OwedFrom files rose (needs t) (OwedBy t due) due
