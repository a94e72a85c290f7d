-- What a command's words may be (our own form): the command, and behind it, in any order, what its table lists.
--
--     read FILE   [FLAG..] [OPTION..] [--hints FILE] [--workers N] [--pages N]
--     index FILE  [FLAG..] [OPTION..]
--     write FILE  [FLAG..] [OPTION..] [--told] [--cookie]
--     schema FILE
--     gen N
--
--     FLAG    --strict --fragment --self-contained --byte-aligned --comments --pis --dtd --prefixes
--     OPTION  --value-max-length N   --value-partition-capacity N   --schema FILE   --schema-id TEXT
--
-- A table is a simple command of `clap`, without its help and version flags. Which words it refuses (`fault_of`) and what the
-- others give (`matches_of`) is that crate's definition. So an option's value is the next word, or stands in the same word behind
-- `=`; each stands once at most; and behind the word `--` a word is FILE whatever its form.
use Rattle.std.specs.Prelude.{List, [], ◌∷◌, Option, Some, None, codes, fold, true, if◌then◌else◌}
use Rattle.std.specs.Str.{bytes_eq}
use Rattle.clap.specs.Simple.{on_top}
use Rattle.clap.specs.Words.{App, Kinds, Row, Rule, Text, fault_of, matches_of, new_app, new_rule, with_rule}
use Rattle.clap.specs.declared.builder.action.ArgAction.TheVariants.{Set, SetTrue}
use Rattle.exi_words.specs.declared.verb.Verb.{Verb}
use Rattle.exi_words.specs.declared.verb.Verb.TheVariants as verb

-- ---- the command
abbrev pub verb_of : Text → Option Verb
verb_of t =
    if bytes_eq t (codes "read") then Some verb.Read
    else if bytes_eq t (codes "index") then Some verb.Index
    else if bytes_eq t (codes "write") then Some verb.Write
    else if bytes_eq t (codes "schema") then Some verb.Schema
    else if bytes_eq t (codes "gen") then Some verb.Gen
    else None

-- ---- what a table lists
-- a flag, as `--strict`
abbrev pub flag_rule : Text → Rule
flag_rule name = record (new_rule name) { long = Some name; action = Some SetTrue }

-- an option with a value, as `--schema FILE`
abbrev pub option_rule : Text → Rule
option_rule name = record (new_rule name) { long = Some name; action = Some Set }

-- the word that has to stand, and is no option
abbrev pub operand_rule : Text → Rule
operand_rule name = record (new_rule name) { action = Some Set; required = true }

abbrev pub with_flag : App → Text → App
with_flag a name = with_rule a (flag_rule name)

abbrev pub with_option : App → Text → App
with_option a name = with_rule a (option_rule name)

abbrev pub with_flags : List Text → App → App
with_flags names a = fold with_flag a names

abbrev pub with_options : List Text → App → App
with_options names a = fold with_option a names

-- ---- the tables
-- each switches an option of the stream on
abbrev pub stream_flags : List Text
stream_flags = codes "strict" ∷ codes "fragment" ∷ codes "self-contained" ∷ codes "byte-aligned" ∷ codes "comments" ∷ codes "pis" ∷ codes "dtd" ∷ codes "prefixes" ∷ []

abbrev pub stream_options : List Text
stream_options = codes "value-max-length" ∷ codes "value-partition-capacity" ∷ codes "schema" ∷ codes "schema-id" ∷ []

-- how a stream is read by workers
abbrev pub worker_options : List Text
worker_options = codes "hints" ∷ codes "workers" ∷ codes "pages" ∷ []

-- what the header of a stream that is written has
abbrev pub header_flags : List Text
header_flags = codes "told" ∷ codes "cookie" ∷ []

-- without flags for help and version
abbrev pub bare : App
bare = on_top (λ s. record s { disable_help_flag = true; disable_version_flag = true }) (new_app (codes "exi"))

abbrev pub with_operand : Text → App
with_operand name = with_rule bare (operand_rule name)

abbrev pub stream_table : App
stream_table = with_options stream_options (with_flags stream_flags (with_operand (codes "FILE")))

abbrev pub table : Verb → App
table verb.Read = with_options worker_options stream_table
table verb.Index = stream_table
table verb.Write = with_flags header_flags stream_table
table verb.Schema = with_operand (codes "FILE")
table verb.Gen = with_operand (codes "N")

-- ---- the words
abbrev pub unless : {X : Type 0} → Kinds → X → Option X
unless [] x = Some x
unless (k ∷ ks) x = None

-- what the words give, of which the first is the command; none where its table refuses them
unfoldable pub given_by : Verb → List Text → Option (List Row)
given_by v words = unless (fault_of (table v) words) (matches_of (table v) words)
