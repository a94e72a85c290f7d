-- What the words ask for, and the files that it needs.
use Rattle.std.specs.Prelude.{◌≡◌, ◌==◌, ◌||◌, ◌&&◌, ℕ, Bool, false, not, is_some, List, [], ◌∷◌, map, Option, Some, None, option_copied, option_map, chars, codes, if◌then◌else◌}
use Rattle.std.specs.Str.{bytes_eq}
use Rattle.exi_gram.specs.declared.options.Options.{Options}
use Rattle.exi_gram.specs.declared.options.SchemaWord.TheVariants as schema
use Rattle.exi_gram.specs.Switches.{conflicts}
use Rattle.exi_options.specs.Laws.{IsTellable}
use Rattle.exi_run.specs.declared.form.Form.{Form}
use Rattle.exi_run.specs.declared.form.Form.TheVariants as form
use Rattle.exi_run.specs.declared.halt.Role.{Role}
use Rattle.exi_run.specs.declared.halt.Role.TheVariants as role
use Rattle.exi_run.specs.declared.given.Given.{Given as Gathered}
use Rattle.exi_run.specs.declared.command.Command.{Command}
use Rattle.exi_run.specs.declared.command.Command.TheVariants as command
use Rattle.exi_run.specs.declared.command.Telling.{Telling}
use Rattle.exi_run.specs.declared.command.Verb.{Verb}
use Rattle.exi_run.specs.declared.command.Verb.TheVariants as verb
use Rattle.exi_run.specs.declared.command.Writing.{Writing}
use Rattle.exi_run.specs.declared.words.Next.{Next}
use Rattle.exi_run.specs.Wishes.{Wish, head_options, options_of, wish_of}
use Rattle.exi_run.specs.Words.{Given, given_by, text}

-- what the words say of how a stream is read
pub record Terms : Type 0 where
  -- the options that its header may leave to the words
  pub options : Options
  -- the file with a schema's document, where one is given
  pub document : Option (List ℕ)
  -- the schema's name, by its bytes, where one is given
  pub name : Option (List ℕ)

-- a command with what its words give: a stream is told in a form, by the name of its file and the terms on which it is read; or one
-- is written of the event text in a file; or the components of a schema document in a file are counted
pub data Task : Type 0 where
  stream : Form → List ℕ → Terms → Task
  writing : List ℕ → Wish → Task
  counting : List ℕ → Task

-- ---- what the code makes of the words
abbrev pub gathered : Gathered → Given
gathered g = record { file = option_copied g.file; flags = g.flags; most = g.most; capacity = g.capacity; document = option_copied g.document; schema = option_copied g.schema; told = g.told; cookie = g.cookie }

abbrev pub walked : Gathered × Next → Given × Next
walked w = (gathered w.0, w.1)

abbrev pub terms_told : Telling → Terms
terms_told t = record { options = t.options; document = option_map chars (option_copied t.document); name = option_copied t.name }

abbrev pub telling_task : Telling → Task
telling_task t = stream t.form t.file.now (terms_told t)

abbrev pub writing_task : Writing → Task
writing_task w = writing w.file.now (wish_of (gathered w.given))

abbrev pub task : Command → Task
task (command.Tell t) = telling_task t
task (command.Write w) = writing_task w
task (command.Count file) = counting file.now

abbrev pub tasked : Option Command → Option Task
tasked None = None
tasked (Some c) = Some (task c)

-- ---- what the words ask for
-- `read` tells a stream as text, `index` where its self-contained elements begin, `write` writes one, and `schema` counts what a
-- schema document declares
abbrev pub verb_of : List ℕ → Option Verb
verb_of t =
    if bytes_eq t (codes "read") then Some (verb.Tell form.Text)
    else if bytes_eq t (codes "index") then Some (verb.Tell form.Starts)
    else if bytes_eq t (codes "write") then Some verb.Write
    else if bytes_eq t (codes "schema") then Some verb.Count
    else None

-- FILE alone
abbrev pub is_bare : Given → Bool
is_bare g = g.flags.0 == 0 && not (is_some g.most) && not (is_some g.capacity) && not (is_some g.document) && not (is_some g.schema) && not g.told && not g.cookie

abbrev pub terms_of : Given → Terms
terms_of g = record { options = options_of g; document = option_map chars g.document; name = g.schema }

-- what a written header has is said for writing alone, and nothing beside FILE for a schema document
abbrev pub task_as : Verb → List ℕ → Given → Option Task
task_as (verb.Tell f) file g = if g.told || g.cookie then None else Some (stream f file (terms_of g))
task_as verb.Write file g = Some (writing file (wish_of g))
task_as verb.Count file g = if is_bare g then Some (counting file) else None

-- no options that exclude each other
abbrev pub task_on : Verb → List ℕ → Given → Option Task
task_on v file g = if conflicts (options_of g) then None else task_as v file g

-- the file is given
abbrev pub task_with : Verb → Option (List ℕ) → Given → Option Task
task_with v None g = None
task_with v (Some file) g = task_on v file g

abbrev pub task_by : Option Verb → Option Given → Option Task
task_by None g = None
task_by (Some v) None = None
task_by (Some v) (Some g) = task_with v g.file g

-- the words of a command, where they have its form
abbrev pub task_of : List (List ℕ) → Option Task
task_of [] = None
task_of (word ∷ words) = task_by (verb_of (text word)) (given_by words)

-- its options exclude nothing, and can be told; those of a body tell no schema
abbrev pub IsReady : Task → Type 0
IsReady (stream f file o) = conflicts o.options ≡ false
IsReady (counting file) = Unit {0}
IsReady (writing file w) = (conflicts w.options ≡ false) × IsTellable (head_options w) × (w.options.schema ≡ schema.Absent)

abbrev pub IsReadyIf : Option Task → Type 0
IsReadyIf None = Unit {0}
IsReadyIf (Some t) = IsReady t

-- ---- files
-- a file that is needed, by its name, and what for
pub record Need : Type 0 where
  pub name : List ℕ
  pub role : Role

-- a schema's document, where one is given, and other files behind it
abbrev pub with_document : Option (List ℕ) → List Need → List Need
with_document None ns = ns
with_document (Some name) ns = record { name = name; role = role.Schema } ∷ ns

-- the files that a command needs, in the order in which they are fetched
abbrev pub needs : Task → List Need
needs (stream f file o) = with_document o.document (record { name = file; role = role.Input } ∷ [])
needs (writing file w) = with_document w.document (record { name = file; role = role.Input } ∷ [])
needs (counting file) = record { name = file; role = role.Schema } ∷ []

abbrev pub needs_of : Option Task → List Need
needs_of None = []
needs_of (Some t) = needs t

abbrev pub names_of : Option Task → List (List ℕ)
names_of t = map (λ (n : Need). n.name) (needs_of t)

-- the file with a schema's document
abbrev pub document_of : Option Task → Option (List ℕ)
document_of None = None
document_of (Some (stream f file o)) = o.document
document_of (Some (writing file w)) = w.document
document_of (Some (counting file)) = Some file
