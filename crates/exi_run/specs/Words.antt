-- The words of a command, as a list of texts (our own form): the command, FILE, and options before or behind it, in any order, each
-- once at most.
--
--     read FILE
--     index FILE
--     write FILE [--told] [--cookie]
--     schema FILE
--
--     --strict --fragment --byte-aligned --self-contained --comments --pis --dtd --prefixes
--     --value-max-length N   --value-partition-capacity N   --schema FILE   --schema-id TEXT
--
-- `schema` takes FILE alone. A value is the next word, or stands in the same word behind `=`. A word that begins with a hyphen and has
-- more behind it names an option; so neither a value that is a word nor FILE is of that form, but behind the word `--`, which may
-- stand once before FILE, each word is FILE. N is 1 to 10 decimal digits; TEXT has at most 65,536 characters, each of XML. A word is
-- compared by its bytes in UTF-8.
use Rattle.std.specs.Prelude.{◌≡◌, ◌<◌, ◌^◌, IfSome, ℕ, zero, suc, ◌==◌, ◌&&◌, Bool, true, false, List, [], ◌∷◌, length, nat_le, nat_lt, Option, Some, None, is_some, option_map, chars, codes, encode_utf8_all, if◌then◌else◌}
use Rattle.std.specs.Int.RustNames.{bit_and, bit_or}
use Rattle.std.specs.List.{before_first, after_first, position_or_len}
use Rattle.std.specs.Str.{bytes_eq}
use Rattle.exi_digits.specs.Digits.{number_in}
use Rattle.exi_gram.specs.declared.options.OptionFlags.{OptionFlags}
use Rattle.exi_names.specs.Characters.{is_xml_char}
use Rattle.exi_options.specs.Document.{flag}
use Rattle.exi_options.specs.Reading.{most_characters}
use Rattle.exi_run.specs.declared.given.TheConstants.{MOST_DIGITS}
use Rattle.exi_run.specs.declared.names.Mark.{Mark}
use Rattle.exi_run.specs.declared.names.Mark.TheVariants as mark
use Rattle.exi_run.specs.declared.names.Named.{Named}
use Rattle.exi_run.specs.declared.names.Named.TheVariants as named
use Rattle.exi_run.specs.declared.names.Valued.{Valued}
use Rattle.exi_run.specs.declared.names.Valued.TheVariants as valued
use Rattle.exi_run.specs.declared.words.Next.{Next}
use Rattle.exi_run.specs.declared.words.Next.TheVariants as next

-- ---- one word
-- a word's bytes
abbrev pub text : List ℕ → List ℕ
text word = encode_utf8_all word

-- it begins with a hyphen (45), and has more behind it
abbrev pub is_hyphened : List ℕ → Bool
is_hyphened [] = false
is_hyphened (c ∷ []) = false
is_hyphened (c ∷ d ∷ ds) = c == 45

-- the equals sign
abbrev pub is_equals : ℕ → Bool
is_equals c = c == 61

-- what stands before the first equals sign, all of it where there is none
abbrev pub name_part : List ℕ → List ℕ
name_part t = before_first is_equals t

-- what stands behind it, where there is one
abbrev pub value_part : List ℕ → Option (List ℕ)
value_part t = if nat_lt (position_or_len is_equals t) (length t) then Some (after_first is_equals t) else None

-- what an option's name stands for
unfoldable pub option_named : List ℕ → Option Named
option_named t =
    if bytes_eq t (codes "--strict") then Some (named.Switch (flag 1))
    else if bytes_eq t (codes "--fragment") then Some (named.Switch (flag 2))
    else if bytes_eq t (codes "--self-contained") then Some (named.Switch (flag 4))
    else if bytes_eq t (codes "--byte-aligned") then Some (named.Switch (flag 8))
    else if bytes_eq t (codes "--comments") then Some (named.Switch (flag 16))
    else if bytes_eq t (codes "--pis") then Some (named.Switch (flag 32))
    else if bytes_eq t (codes "--dtd") then Some (named.Switch (flag 64))
    else if bytes_eq t (codes "--prefixes") then Some (named.Switch (flag 128))
    else if bytes_eq t (codes "--value-max-length") then Some (named.Value valued.MaxLength)
    else if bytes_eq t (codes "--value-partition-capacity") then Some (named.Value valued.Capacity)
    else if bytes_eq t (codes "--schema") then Some (named.Value valued.Schema)
    else if bytes_eq t (codes "--schema-id") then Some (named.Value valued.SchemaId)
    else if bytes_eq t (codes "--told") then Some (named.Mark mark.Told)
    else if bytes_eq t (codes "--cookie") then Some (named.Mark mark.Cookie)
    else None

-- ---- what the words have given so far
pub record Given : Type 0 where
  pub file : Option (List ℕ)
  -- the options that are on
  pub flags : OptionFlags
  pub most : Option ℕ
  pub capacity : Option ℕ
  -- the file with the schema's document, by the bytes of its name
  pub document : Option (List ℕ)
  -- the schema's name, by its bytes
  pub schema : Option (List ℕ)
  -- whether the header of a stream that is written has the options document, and the cookie
  pub told : Bool
  pub cookie : Bool

abbrev pub nothing : Given
nothing = record { file = None; flags = flag 0; most = None; capacity = None; document = None; schema = None; told = false; cookie = false }

-- FILE, which is given once at most
abbrev pub with_file : List ℕ → Given → Option Given
with_file name g = if is_some g.file then None else Some (record g { file = Some name })

abbrev pub with_switch : OptionFlags → Given → Option Given
with_switch f g = if bit_and g.flags.0 f.0 == f.0 then None else Some (record g { flags = flag (bit_or g.flags.0 f.0) })

-- which is asked for once at most
unfoldable pub with_mark : Mark → Given → Option Given
with_mark mark.Told g = if g.told then None else Some (record g { told = true })
with_mark mark.Cookie g = if g.cookie then None else Some (record g { cookie = true })

-- how many digits a number has at most
abbrev pub most_digits : ℕ
most_digits = MOST_DIGITS

abbrev pub number_told : List ℕ → Option ℕ
number_told t = if nat_le (length t) most_digits then number_in t else None

-- no more characters than that, and each of XML
abbrev pub are_few_xml : ℕ → List ℕ → Bool
are_few_xml n [] = true
are_few_xml zero (c ∷ cs) = false
are_few_xml (suc n) (c ∷ cs) = is_xml_char c && are_few_xml n cs

abbrev pub is_schema_name : List ℕ → Bool
is_schema_name t = are_few_xml most_characters (chars t)

-- the text, where there is one, may name a schema
abbrev pub IsNamed : Option (List ℕ) → Type 0
IsNamed name = IfSome name (λ t. is_schema_name t ≡ true)

-- what is given fits in options that can be told
pub record IsFit (g : Given) : Type 0 where
  pub flags : g.flags.0 < 256
  pub most : IfSome g.most (λ n. n < 2 ^ 128)
  pub capacity : IfSome g.capacity (λ n. n < 2 ^ 128)
  pub named : IsNamed g.schema

abbrev pub with_most : Given → ℕ → Given
with_most g n = record g { most = Some n }

abbrev pub with_capacity : Given → ℕ → Given
with_capacity g n = record g { capacity = Some n }

-- the value of an option, which is given once at most
unfoldable pub with_value : Valued → List ℕ → Given → Option Given
with_value valued.MaxLength t g = if is_some g.most then None else option_map (with_most g) (number_told t)
with_value valued.Capacity t g = if is_some g.capacity then None else option_map (with_capacity g) (number_told t)
with_value valued.Schema t g = if is_some g.document then None else Some (record g { document = Some t })
with_value valued.SchemaId t g = if is_some g.schema then None else (if is_schema_name t then Some (record g { schema = Some t }) else None)

-- ---- one word after another
-- what is given, and what the next word is
abbrev pub Walk : Type 0
Walk = Option (Given × Next)

abbrev pub go_on : Next → Option Given → Walk
go_on n None = None
go_on n (Some g) = Some (g, n)

abbrev pub with_option : Option Named → Option (List ℕ) → Given → Walk
with_option None value g = None
with_option (Some (named.Switch f)) None g = go_on next.Any (with_switch f g)
with_option (Some (named.Switch f)) (Some value) g = None
with_option (Some (named.Mark m)) None g = go_on next.Any (with_mark m g)
with_option (Some (named.Mark m)) (Some value) g = None
with_option (Some (named.Value k)) None g = Some (g, next.Value k)
with_option (Some (named.Value k)) (Some value) g = go_on next.Any (with_value k value g)

-- one word more: FILE, the value of an option, `--`, or an option
unfoldable pub word_taken : Given → Next → List ℕ → Walk
word_taken g next.File word = go_on next.File (with_file word g)
word_taken g (next.Value k) word = if is_hyphened (text word) then None else go_on next.Any (with_value k (text word) g)
word_taken g next.Any word =
    if bytes_eq (text word) (codes "--") then Some (g, next.File)
    else if is_hyphened (text word) then with_option (option_named (name_part (text word))) (value_part (text word)) g
    else go_on next.Any (with_file word g)

abbrev pub words_taken : Walk → List (List ℕ) → Walk
words_taken w [] = w
words_taken None (word ∷ words) = None
words_taken (Some (g, n)) (word ∷ words) = words_taken (word_taken g n word) words

-- no option waits for its value
abbrev pub ended : Walk → Option Given
ended None = None
ended (Some (g, next.Any)) = Some g
ended (Some (g, next.Value k)) = None
ended (Some (g, next.File)) = Some g

-- what the words behind the command give
abbrev pub given_by : List (List ℕ) → Option Given
given_by words = ended (words_taken (Some (nothing, next.Any)) words)
