-- What was done of what is owed, and what each status says of it.
use Rattle.std.specs.Prelude.{◌≡◌, ◌≢◌, ◌⊎◌, ℕ, ◌<◌, ◌≤◌, Bool, List, [], ◌∷◌, ◌++◌, length, Option, Some, None, IfSome, Result, Ok, Err, codes}
use Rattle.exi_gram.specs.Outlines.{Outline}
use Rattle.exi_gram.specs.Schemas.{IsSchema}
use Rattle.exi_names.specs.Events.{Happening, Grows}
use Rattle.xsd_file.specs.Bases.{Basis}
use Rattle.exi_ports.specs.Ports.{file_at, GrowsInPart}
use Rattle.exi_run.specs.declared.form.Form.{Form}
use Rattle.exi_run.specs.declared.halt.Halt.{Halt}
use Rattle.exi_run.specs.declared.halt.Halt.TheVariants as halt
use Rattle.exi_run.specs.declared.halt.Refusal.{Refusal}
use Rattle.exi_run.specs.declared.halt.Refusal.TheVariants as refusal
use Rattle.exi_run.specs.declared.halt.Role.{Role}
use Rattle.exi_run.specs.declared.ending.Ending.{Ending}
use Rattle.exi_run.specs.declared.status.Status.{Status}
use Rattle.exi_run.specs.declared.status.Status.TheVariants as status
use Rattle.exi_run.specs.declared.unwritten.Unwritten.{Unwritten}
use Rattle.exi_run.specs.declared.unwritten.Unwritten.TheVariants as unwritten
use Rattle.exi_run.specs.Backs.{ReadsBack}
use Rattle.exi_run.specs.Dues.{Due, all_pieces, basis_by, count_lines, text_of, refusal_due, text_due, Files, most_bytes, found, long, failed, IsHad, Owed}
use Rattle.exi_run.specs.Refusals.{refusal_line, refusal_status, schema_line, unwritten_line}
use Rattle.exi_run.specs.Wholes.{IsWhole, IsFront}
use Rattle.exi_run.specs.Stops.{halt_for}
use Rattle.exi_run.specs.Statuses.{IsTold, Sort, told, refuses, breaks, starved, sort_of}
use Rattle.exi_run.specs.Tasks.{Task, Terms, stream, writing, counting, Need, document_of, needs_of}
use Rattle.exi_run.specs.Wishes.{Wish, head_bits, stream_of, written_for}
use Rattle.exi_run.specs.Endings.{status_of}
use Rattle.exi_run.specs.Forms.{all_said, told_as}
use Rattle.exi_writer.specs.Writing.{Answers, Listing}
use Rattle.exi_writer.specs.declared.fault.WriteFault.{WriteFault}
use Rattle.exi_writing.specs.Runs.{Run}
use Rattle.xsd_file.specs.Documents.{IsDocument}
use Rattle.xsd_file.specs.declared.refusal.SchemaRefusal.{SchemaRefusal}
use Rattle.xsd_file.specs.Words.{Known}

-- ---- what was done
abbrev pub no_memory : List ℕ
no_memory = codes "no memory" ++ 10 ∷ []

-- a front of the text was added, where it is told
abbrev pub GrowsByFront : {X : Type 0} → Option (List X) → List X → Option (List X) → Type 0
GrowsByFront {X} old text new = (front rest : List X) × (text ≡ front ++ rest) × Grows old front new

-- first lines, some, all or none, were added, and behind them a text; the last piece was not
abbrev pub GrowsByLines : Option (List ℕ) → List (List ℕ) → List ℕ → Option (List ℕ) → Type 0
GrowsByLines old lines text new = (some others : List (List ℕ)) × (lines ≡ some ++ others) × Grows old (text_of some ++ text) new

-- how it went, before a line on a refusal or on want of memory
abbrev pub Did : Due → Result Status Halt → Option (List ℕ) → Option (List ℕ) → Type 0
Did due (Ok s) old new = (s ≡ due.status) × Grows old (text_of (all_pieces due)) new
Did due (Err (halt.Refused r)) old new = (due ≡ refusal_due r) × (new ≡ old)
Did due (Err halt.Write) old new = GrowsByFront old (text_of (all_pieces due)) new
Did due (Err halt.Memory) old new = GrowsByLines old due.lines [] new

-- the same, with what is owed
abbrev pub Served : Option Task → Option Files → Type 0 → Result Status Halt → Option (List ℕ) → Option (List ℕ) → Type 0
Served t files rose result old new = (due : Due) × Owed t files rose due × Did due result old new

-- all of it was put; or a front of it, or a front of the line on want of memory behind first lines; or first lines, with
-- or without that line
abbrev pub AnsweredBy : Sort → Due → Status → Option (List ℕ) → Option (List ℕ) → Type 0
AnsweredBy told due s old new = (due.status ≡ s) × Grows old (text_of (all_pieces due)) new
AnsweredBy refuses due s old new = (due.status ≡ s) × Grows old (text_of (all_pieces due)) new
AnsweredBy breaks due s old new = GrowsByFront old (text_of (all_pieces due)) new ⊎ ((front rest : List ℕ) × (no_memory ≡ front ++ rest) × GrowsByLines old due.lines front new)
AnsweredBy starved due s old new = GrowsByLines old due.lines [] new ⊎ GrowsByLines old due.lines no_memory new

-- the line on want of memory was put, not begun, or broken off
abbrev pub Starves : Status → Option (List ℕ) → Option (List ℕ) → Type 0
Starves s old new = ((s ≡ status.NoMemory) × ((new ≡ old) ⊎ Grows old no_memory new)) ⊎ ((s ≡ status.WriteFault) × GrowsInPart old no_memory new)

-- what was owed was done, as far as the status says
abbrev pub Answered : Due → Status → Option (List ℕ) → Option (List ℕ) → Type 0
Answered due s old new = AnsweredBy (sort_of s) due s old new

-- for these words, these files and this status
abbrev pub IsAnswered : Option Task → Option Files → Type 0 → Status → Option (List ℕ) → Option (List ℕ) → Type 0
IsAnswered t files rose s old new = (due : Due) × Owed t files rose due × Answered due s old new

-- a fetch gave the file's bytes, or its refusal
abbrev pub Fetches : Option Files → Type 0 → List ℕ → Role → Result (List ℕ) Halt → Type 0
Fetches files rose name role (Ok bytes) = IsHad files rose name (found bytes)
Fetches files rose name role (Err (halt.Refused refusal.Usage)) = ⊥
Fetches files rose name role (Err (halt.Refused refusal.ReadFailed)) = IsHad files rose name failed
Fetches files rose name role (Err (halt.Refused (refusal.TooLong r))) = (r ≡ role) × IsHad files rose name long
Fetches files rose name role (Err (halt.Refused (refusal.Events why))) = ⊥
Fetches files rose name role (Err (halt.Refused (refusal.Schema why))) = ⊥
Fetches files rose name role (Err halt.Write) = ⊥
Fetches files rose name role (Err halt.Memory) = Unit {0}

-- what the form says of the events: all up to the end, a front of it, or of first events
abbrev pub DidEvents : Form → Basis → List ℕ → Result Ending Halt → Option (List ℕ) → Option (List ℕ) → Type 0
DidEvents f basis bytes (Ok e) old new = (es : List Happening) × IsWhole basis bytes es e × Grows old (all_said f es) new
DidEvents f basis bytes (Err (halt.Refused r)) old new = ⊥
DidEvents f basis bytes (Err halt.Write) old new = (es : List Happening) × IsFront basis bytes es × GrowsByFront old (all_said f es) new
DidEvents f basis bytes (Err halt.Memory) old new = (es : List Happening) × IsFront basis bytes es × Grows old (all_said f es) new

-- the last pieces: all of them, a front, or none
abbrev pub DidLast : List (List ℕ) → Result (Unit {0}) Halt → Option (List ℕ) → Option (List ℕ) → Type 0
DidLast ps (Ok done) old new = Grows old (text_of ps) new
DidLast ps (Err (halt.Refused r)) old new = ⊥
DidLast ps (Err halt.Write) old new = GrowsByFront old (text_of ps) new
DidLast ps (Err halt.Memory) old new = new ≡ old

-- ---- of a stream that is written
-- what is answered behind these events now was to be answered of them
pub record Took (old : Listing) (es : List Happening) (new : Listing) : Type 0 where
  pub behind : (answer : Result (List Bool) WriteFault) → Answers answer new [] → Answers answer old es

-- all that the lines say was taken; or the first line that says no event, whatever was refused before it
abbrev pub TakesAll : Result (Unit {0}) Halt → Result (List Happening) ℕ → Listing → Listing → Type 0
TakesAll (Ok done) read old new = (es : List Happening) × (read ≡ Ok es) × Took old es new
TakesAll (Err (halt.Refused r)) read old new = (line : ℕ) × (r ≡ refusal.Events (unwritten.Syntax line)) × (read ≡ Err line)
TakesAll (Err halt.Write) read old new = ⊥
TakesAll (Err halt.Memory) read old new = Unit {0}

-- the bits of a list that ends here, or why there are none
abbrev pub Finishes : Result (List Bool) Halt → Listing → Type 0
Finishes (Ok out) list = Answers (Ok out) list []
Finishes (Err h) list = (f : WriteFault) × (h ≡ halt_for f) × Answers (Err f) list []

-- the bits of header and body, or why there are none
abbrev pub Composes : Wish → Option Outline → List ℕ → Result (List Bool) Halt → Type 0
Composes w known text (Ok out) = (r : Run) × (written_for w known text ≡ Ok r) × (out ≡ head_bits w ++ r.bits)
Composes w known text (Err (halt.Refused r)) = (why : Unwritten) × (r ≡ refusal.Events why) × (written_for w known text ≡ Err why)
Composes w known text (Err halt.Write) = ⊥
Composes w known text (Err halt.Memory) = Unit {0}

-- the stream was put, or nothing of it
abbrev pub DidWrite : Wish → Option Outline → List ℕ → Result Status Halt → Option (List ℕ) → Option (List ℕ) → Type 0
DidWrite w known text r old new = Did (text_due w (written_for w known text)) r old new

-- ---- of a schema document
-- the schema that it makes known, or why it is refused
abbrev pub Informs : List ℕ → Result Outline Halt → Type 0
Informs document (Ok schema) = (k : Known) × IsDocument document (Ok k) × (schema ≡ k.schema)
Informs document (Err (halt.Refused r)) = (why : SchemaRefusal) × (r ≡ refusal.Schema why) × IsDocument document (Err why)
Informs document (Err halt.Write) = ⊥
Informs document (Err halt.Memory) = Unit {0}

-- the grammars of the schema that it makes known fit together as every schema's do: they do where there was memory for them
abbrev pub Stands : List ℕ → Type 0
Stands document = (k : Known) → IsDocument document (Ok k) → IsSchema k.schema

-- lines one after another: all of them, a front of their text, or first lines
abbrev pub DidLines : List (List ℕ) → Result (Unit {0}) Halt → Option (List ℕ) → Option (List ℕ) → Type 0
DidLines lines (Ok done) old new = Grows old (text_of lines) new
DidLines lines (Err (halt.Refused r)) old new = ⊥
DidLines lines (Err halt.Write) old new = GrowsByFront old (text_of lines) new
DidLines lines (Err halt.Memory) old new = GrowsByLines old lines [] new

-- ---- what a status says, in parts
-- a fact of the bytes of a file, where the shelf tells them
abbrev pub OfFile : Option (List ℕ) → Option Files → (List ℕ → Type 0) → Type 0
OfFile name files P = IfSome name (λ n. IfSome files (λ held. IfSome (file_at held n) P))

-- a fact of the bytes of a schema's document, where one is given, and of those of a file
abbrev pub OfBoth : Option (List ℕ) → List ℕ → Option Files → (Option (List ℕ) → List ℕ → Type 0) → Type 0
OfBoth None file files P = OfFile (Some file) files (P None)
OfBoth (Some name) file files P = OfFile (Some name) files (λ document. OfFile (Some file) files (P (Some document)))

-- a fact of a stream that is told in this form: of the terms on which it is read, and of these bytes
abbrev pub OfStream : Form → Option Task → Option Files → (Terms → Option (List ℕ) → List ℕ → Type 0) → Type 0
OfStream f None files P = Unit {0}
OfStream f (Some (stream g file o)) files P = f ≡ g → OfBoth o.document file files (P o)
OfStream f (Some (writing file w)) files P = Unit {0}
OfStream f (Some (counting file)) files P = Unit {0}

-- a fact of a stream that is written: of what is asked for, the bytes of a schema's document, where one is given, and those of its
-- event text
abbrev pub OfWriting : Option Task → Option Files → (Wish → Option (List ℕ) → List ℕ → Type 0) → Type 0
OfWriting None files P = Unit {0}
OfWriting (Some (stream f file o)) files P = Unit {0}
OfWriting (Some (writing file w)) files P = OfBoth w.document file files (P w)
OfWriting (Some (counting file)) files P = Unit {0}

-- a fact of a schema's document: of its bytes
abbrev pub OfDocument : Option Task → Option Files → (List ℕ → Type 0) → Type 0
OfDocument t files P = OfFile (document_of t) files P

-- the schema that is known: none without a document, or by one, which is not refused
abbrev pub IsKnown : Option (List ℕ) → Option Outline → Type 0
IsKnown None known = known ≡ None
IsKnown (Some document) known = (k : Known) × IsDocument document (Ok k) × (known ≡ Some k.schema)

-- what is known beside a stream: by the words alone, or by a schema's document too
abbrev pub IsBasis : Terms → Option (List ℕ) → Basis → Type 0
IsBasis o document basis = (known : Option Outline) × IsKnown document known × (basis ≡ basis_by o known)

-- the sink took the whole of what the form tells of these bytes, and the status is that of their end
abbrev pub TellsBy : Form → Basis → Status → Option (List ℕ) → Option (List ℕ) → List ℕ → Type 0
TellsBy f basis s old new bytes = (es : List Happening) × (e : Ending) × IsWhole basis bytes es e × (s ≡ status_of e) × Grows old (told_as f es e) new

abbrev pub Tells : Form → Terms → Status → Option (List ℕ) → Option (List ℕ) → Option (List ℕ) → List ℕ → Type 0
Tells f o s old new document bytes = (basis : Basis) × IsBasis o document basis × TellsBy f basis s old new bytes

-- the sink took the stream of a text, header and body, by the schema that is known, if there is one
abbrev pub Writes : Wish → Option (List ℕ) → Option (List ℕ) → Option (List ℕ) → List ℕ → Type 0
Writes w old new document text = (known : Option Outline) × IsKnown document known × ((r : Run) × (written_for w known text ≡ Ok r) × Grows old (stream_of w r) new)

-- there is none, and the sink took the line that says why
abbrev pub WritesNone : Wish → Option (List ℕ) → Option (List ℕ) → Option (List ℕ) → List ℕ → Type 0
WritesNone w old new document text = (known : Option Outline) × IsKnown document known × ((why : Unwritten) × (written_for w known text ≡ Err why) × Grows old (unwritten_line why) new)

-- what is written is read back: without a schema's document whatever the status is, and with one where the stream was written
abbrev pub IsBack : Wish → Status → Option (List ℕ) → List ℕ → Type 0
IsBack w s None text = ReadsBack w None text
IsBack w s (Some document) text = s ≡ status.Ok → (k : Known) → IsDocument document (Ok k) → ReadsBack w (Some k.schema) text

-- the sink took how many components the document declares that the whole schema knows by name
abbrev pub Counts : Option (List ℕ) → Option (List ℕ) → List ℕ → Type 0
Counts old new bytes = (k : Known) × IsDocument bytes (Ok k) × Grows old (text_of (count_lines k.declared)) new

-- the document is refused, and the sink took the line that says why
abbrev pub RefusesDocument : Option (List ℕ) → Option (List ℕ) → List ℕ → Type 0
RefusesDocument old new bytes = (why : SchemaRefusal) × IsDocument bytes (Err why) × Grows old (schema_line why) new

abbrev pub IsWriting : Option Task → Type 0
IsWriting None = ⊥
IsWriting (Some (stream f file o)) = ⊥
IsWriting (Some (writing file w)) = Unit {0}
IsWriting (Some (counting file)) = ⊥

abbrev pub IsCounting : Option Task → Type 0
IsCounting None = ⊥
IsCounting (Some (stream f file o)) = ⊥
IsCounting (Some (writing file w)) = ⊥
IsCounting (Some (counting file)) = Unit {0}

-- a schema's document is given
abbrev pub IsGiven : Option (List ℕ) → Type 0
IsGiven None = ⊥
IsGiven (Some name) = Unit {0}

abbrev pub HasDocument : Option Task → Type 0
HasDocument t = IsGiven (document_of t)

-- where a stream is written by a schema's document
abbrev pub StandsFor : Option Task → Option Files → Type 0
StandsFor t files = IsWriting t → OfDocument t files Stands

-- no memory was found: the line that says so, or nothing, was put
abbrev pub StarvesOnly : Status → Option (List ℕ) → Option (List ℕ) → Type 0
StarvesOnly s old new = s ≡ status.NoMemory → (new ≡ old) ⊎ Grows old no_memory new

-- how a command ends that is not refused for its words or its files
abbrev pub Ends : Option Task → Status → Type 0
Ends None s = ⊥
Ends (Some (stream f file o)) s = IsTold s ⊎ (IsGiven o.document × (s ≡ status.Schema))
Ends (Some (writing file w)) s = ((s ≡ status.Ok) ⊎ (s ≡ status.Events)) ⊎ (IsGiven w.document × (s ≡ status.Schema))
Ends (Some (counting file)) s = (s ≡ status.Ok) ⊎ (s ≡ status.Schema)

-- a file that is told is longer than the limit
abbrev pub IsLong : Option (List ℕ) → Type 0
IsLong None = ⊥
IsLong (Some bytes) = most_bytes < length bytes

abbrev pub HasLong : Files → List Need → Type 0
HasLong held [] = ⊥
HasLong held (n ∷ ns) = IsLong (file_at held n.name) ⊎ HasLong held ns

-- all files are told, and within the limit
abbrev pub IsWithin : Option (List ℕ) → Type 0
IsWithin None = ⊥
IsWithin (Some bytes) = length bytes ≤ most_bytes

abbrev pub AreWithin : Files → List Need → Type 0
AreWithin held [] = Unit {0}
AreWithin held (n ∷ ns) = IsWithin (file_at held n.name) × AreWithin held ns

-- what may refuse: that the words are no command; a file of one that could not be read or is too long; an event text that is not written; a schema document that
-- is refused
abbrev pub HasRole : List Need → Role → Type 0
HasRole [] role = ⊥
HasRole (n ∷ ns) role = (role ≡ n.role) ⊎ HasRole ns role

abbrev pub MayRefuse : Option Task → Refusal → Type 0
MayRefuse t refusal.Usage = t ≡ None
MayRefuse t refusal.ReadFailed = t ≢ None
MayRefuse t (refusal.TooLong role) = HasRole (needs_of t) role
MayRefuse t (refusal.Events why) = IsWriting t
MayRefuse t (refusal.Schema why) = HasDocument t

-- a status that refuses: the line of its refusal, and nothing else, was put
abbrev pub RefusalPut : Option Task → Status → Option (List ℕ) → Option (List ℕ) → Type 0
RefusalPut t s old new = sort_of s ≡ refuses → (r : Refusal) × MayRefuse t r × (s ≡ refusal_status r) × Grows old (refusal_line r) new

-- statuses of commands that are not there yet
abbrev pub IsLater : Status → Type 0
IsLater s = s ≡ status.Hints
