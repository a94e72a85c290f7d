-- What words ask for: the values that a command's table gives for them, each as what its option means.
use Rattle.std.specs.Prelude.{◌≡◌, ◌<◌, ◌≤◌, ◌^◌, ℕ, Bool, false, List, [], ◌∷◌, Option, Some, None, option_copied, option_map, codes, IfSome, if◌then◌else◌, true}
use Rattle.clap.specs.Words.{Row, Text, first_of}
use Rattle.exi_gram.specs.Switches.{conflicts}
use Rattle.exi_gram.specs.declared.options.Options.{Options}
use Rattle.exi_gram.specs.declared.options.SchemaWord.TheVariants as schema
use Rattle.exi_words.specs.Tables.{given_by, verb_of}
use Rattle.exi_words.specs.Values.{◌>>=◌, flags_of, is_schema_name, name_if, number_if, number_or, number_within, stands}
use Rattle.exi_words.specs.declared.command.Command.{Command}
use Rattle.exi_words.specs.declared.command.Command.TheVariants as command
use Rattle.exi_words.specs.declared.command.Reading.{Reading}
use Rattle.exi_words.specs.declared.command.Writing.{Writing}
use Rattle.exi_words.specs.declared.command.TheConstants.{MOST_LINES, MOST_PAGES, MOST_WORKERS, USUAL_PAGES}
use Rattle.exi_words.specs.declared.terms.Terms.{Terms as GivenTerms}
use Rattle.exi_words.specs.declared.verb.Verb.{Verb}
use Rattle.exi_words.specs.declared.verb.Verb.TheVariants as verb

-- what the words say of a stream
pub record Terms : Type 0 where
  -- its file, or that of its event text
  pub file : Text
  -- the options that they give
  pub options : Options
  -- the file with a schema's document, and the schema's name, where they are given
  pub document : Option Text
  pub name : Option Text

-- a stream is read, with what says where its self-contained elements begin, by so many workers with so many pages; or its index
-- is made; or one is written, whose header has the options and the cookie or not; or what a schema document declares is counted;
-- or an order of so many lines is made
pub data Asked : Type 0 where
  reading : Terms → Option Text → ℕ → ℕ → Asked
  indexing : Terms → Asked
  writing : Terms → Bool → Bool → Asked
  counting : Text → Asked
  making : ℕ → Asked

-- ---- what the code makes of the words
abbrev pub terms_meant : GivenTerms → Terms
terms_meant t = record { file = t.file.now; options = t.options; document = option_copied t.document; name = option_copied t.name }

abbrev pub reading_meant : Reading → Asked
reading_meant r = reading (terms_meant r.terms) (option_copied r.hints) r.workers r.pages

abbrev pub writing_meant : Writing → Asked
writing_meant w = writing (terms_meant w.terms) w.told w.cookie

abbrev pub meant : Command → Asked
meant (command.Read r) = reading_meant r
meant (command.Index t) = indexing (terms_meant t)
meant (command.Write w) = writing_meant w
meant (command.Schema file) = counting file.now
meant (command.Gen lines) = making lines

-- ---- limits
abbrev pub most_workers : ℕ
most_workers = MOST_WORKERS

abbrev pub most_pages : ℕ
most_pages = MOST_PAGES

abbrev pub usual_pages : ℕ
usual_pages = USUAL_PAGES

abbrev pub most_lines : ℕ
most_lines = MOST_LINES

-- ---- what the values mean
-- options that exclude nothing
abbrev pub free : Options → Option Options
free o = if conflicts o then None else Some o

-- the options of a stream. A schema's name is none of them: it is what a stream's own name of it is compared with, or what a
-- header tells
unfoldable pub options_of : List Row → Option Options
options_of rows = do
  most ← number_if (first_of (codes "value-max-length") rows)
  capacity ← number_if (first_of (codes "value-partition-capacity") rows)
  free (record { flags = flags_of rows; schema = schema.Absent; block = 1_000_000; most = most; capacity = capacity })

unfoldable pub terms_of : List Row → Option Terms
terms_of rows = do
  file ← first_of (codes "FILE") rows
  options ← options_of rows
  name ← name_if (first_of (codes "schema-id") rows)
  Some (record { file = file; options = options; document = first_of (codes "schema") rows; name = name })

unfoldable pub reading_of : List Row → Option Asked
reading_of rows = do
  terms ← terms_of rows
  workers ← number_or 0 most_workers (first_of (codes "workers") rows)
  pages ← number_or usual_pages most_pages (first_of (codes "pages") rows)
  Some (reading terms (first_of (codes "hints") rows) workers pages)

abbrev pub writing_of : List Row → Terms → Asked
writing_of rows t = writing t (stands (codes "told") rows) (stands (codes "cookie") rows)

abbrev pub lines_of : List Row → Option ℕ
lines_of rows = first_of (codes "N") rows >>= number_within 1 most_lines

unfoldable pub asked_as : Verb → List Row → Option Asked
asked_as verb.Read rows = reading_of rows
asked_as verb.Index rows = option_map indexing (terms_of rows)
asked_as verb.Write rows = option_map (writing_of rows) (terms_of rows)
asked_as verb.Schema rows = option_map counting (first_of (codes "FILE") rows)
asked_as verb.Gen rows = option_map making (lines_of rows)

abbrev pub asked_by : Option Verb → List Text → Option Asked
asked_by None words = None
asked_by (Some v) words = given_by v words >>= asked_as v

-- what the words ask for, where they are a command's
unfoldable pub asked_of : List Text → Option Asked
asked_of [] = None
asked_of (word ∷ words) = asked_by (verb_of word) (word ∷ words)

-- ---- what holds of each command
-- the options exclude nothing and tell no schema, and a header can tell them
pub record AreFit (o : Options) : Type 0 where
  pub free : conflicts o ≡ false
  pub schema : o.schema ≡ schema.Absent
  pub block : o.block ≡ 1_000_000
  pub flags : o.flags.0 < 256
  pub most : IfSome o.most (λ n. n < 2 ^ 128)
  pub capacity : IfSome o.capacity (λ n. n < 2 ^ 128)

-- and the schema's name, where one is given, is such a name
pub record AreSound (t : Terms) : Type 0 where
  pub options : AreFit t.options
  pub name : IfSome t.name (λ n. is_schema_name n ≡ true)

abbrev pub IsSound : Asked → Type 0
IsSound (reading t hints workers pages) = AreSound t × (workers ≤ 64) × (pages ≤ 65_536)
IsSound (indexing t) = AreSound t
IsSound (writing t told cookie) = AreSound t
IsSound (counting file) = Unit {0}
IsSound (making lines) = (1 ≤ lines) × (lines ≤ 65_536)
