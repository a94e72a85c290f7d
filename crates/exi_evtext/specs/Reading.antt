-- The event that a line says: part by part, each behind the one before it. Nothing where the line has another form, or
-- a value that no datatype can spell. A line is the list of its bytes, without the line feed that ends it.
use Rattle.std.specs.Prelude.{ℕ, zero, suc, ◌^◌, ◌==◌, ◌||◌, nat_lt, Bool, true, false, if◌then◌else◌, List, [], ◌∷◌, length, take, drop, Option, Some, None, option_map, codes, decimal, bytes_eq}
use Rattle.std.specs.Str.{chars, is_utf8}
use Rattle.exi_names.specs.declared.moment.MomentKind.{MomentKind}
use Rattle.exi_names.specs.declared.moment.MomentKind.TheVariants as form
use Rattle.exi_names.specs.declared.names.QName.{QName}
use Rattle.exi_names.specs.Wholes.{Number}
use Rattle.exi_names.specs.Seen.{Value, Values, text, integer, moment, binary, items, name, no_more, and}
use Rattle.exi_names.specs.Events as event
use Rattle.exi_names.specs.Events.{Happening}
use Rattle.exi_digits.specs.Digits.{number_in}
use Rattle.exi_digits.specs.Splits.{before, behind, is_mark}
use Rattle.exi_names.specs.Forms.{is_integer, is_unsigned}
use Rattle.exi_numerals.specs.Integers.{integer_in}
use Rattle.exi_numerals.specs.Decimals.{decimal_value}
use Rattle.exi_numerals.specs.Floats.{float_value}
use Rattle.exi_calendar.specs.Reading.{◌>>=◌, moment_value, past}
use Rattle.exi_lexical.specs.Binaries.{base64_octets, hex_octets}
use Rattle.exi_lexical.specs.Values.{boolean_value, canonical, of_decimal, of_float}

-- ---- texts
-- the byte that one behind a backslash stands for
abbrev pub unescaped : ℕ → Option ℕ
unescaped b =
    if b == 34 then Some 34
    else if b == 92 then Some 92
    else if b == 110 then Some 10
    else if b == 114 then Some 13
    else if b == 116 then Some 9
    else None

-- a line feed, a carriage return or a tab
abbrev pub is_bare : ℕ → Bool
is_bare b = b == 10 || b == 13 || b == 9

-- one byte more in front
abbrev pub with_byte : ℕ → Option (List ℕ × List ℕ) → Option (List ℕ × List ℕ)
with_byte b None = None
with_byte b (Some found) = Some (b ∷ found.0, found.1)

abbrev pub with_escaped : Option ℕ → Option (List ℕ × List ℕ) → Option (List ℕ × List ℕ)
with_escaped None found = None
with_escaped (Some b) found = with_byte b found

-- the bytes up to the quote that closes, and what stands behind it; first whether a backslash stands in front
abbrev pub content_at : Bool → List ℕ → Option (List ℕ × List ℕ)
content_at behind_backslash [] = None
content_at true (b ∷ bytes) = with_escaped (unescaped b) (content_at false bytes)
content_at false (b ∷ bytes) =
    if b == 34 then Some ([], bytes)
    else if b == 92 then content_at true bytes
    else if is_bare b then None
    else with_byte b (content_at false bytes)

-- the characters of the bytes, where these are UTF-8
unfoldable pub decoded : List ℕ × List ℕ → Option (List ℕ × List ℕ)
decoded found = if is_utf8 found.0 then Some (chars found.0, found.1) else None

-- a text behind the quote that opens it
abbrev pub opened_at : List ℕ → Option (List ℕ × List ℕ)
opened_at bytes = content_at false bytes >>= decoded

abbrev pub text_at : List ℕ → Option (List ℕ × List ℕ)
text_at bytes = past (34 ∷ []) bytes >>= opened_at

-- one more text, behind a space
abbrev pub also_at : List ℕ → Option (List ℕ × List ℕ)
also_at bytes = past (32 ∷ []) bytes >>= text_at

-- ---- names
abbrev pub some_prefix : List ℕ × List ℕ → Option (Option (List ℕ) × List ℕ)
some_prefix found = Some (Some found.0, found.1)

-- where a quote comes behind a space, there is a prefix
abbrev pub optional_at : List ℕ → Option (List ℕ) → Option (Option (List ℕ) × List ℕ)
optional_at bytes None = Some (None, bytes)
optional_at bytes (Some inside) = opened_at inside >>= some_prefix

abbrev pub prefix_at : List ℕ → Option (Option (List ℕ) × List ℕ)
prefix_at bytes = optional_at bytes (past (32 ∷ 34 ∷ []) bytes)

-- URI, local name, and the prefix where there is one
unfoldable pub name_at : List ℕ → Option (QName × List ℕ)
name_at bytes = do
  uri ← text_at bytes
  local ← also_at uri.1
  prefix ← prefix_at local.1
  Some (record { uri = uri.0; local = local.0; prefix = prefix.0 }, prefix.1)

-- ---- values
-- the value, where this is its canonical text
abbrev pub if_canonical : List ℕ → Option Value → Option Value
if_canonical digits None = None
if_canonical digits (Some v) = if bytes_eq (canonical v) digits then Some v else None

-- what some integer datatype can spell: -2^127 to 2^128 - 1
abbrev pub is_spelled : Number → Bool
is_spelled n = is_integer n || is_unsigned n

-- the first, if there is one, else the second
abbrev pub or_else : {A : Type 0} → Option A → Option A → Option A
or_else None second = second
or_else (Some first) second = Some first

abbrev pub moment_of : MomentKind → List ℕ → Option Value
moment_of kind digits = if_canonical digits (option_map moment (moment_value kind digits))

-- a date or a time of any kind; no canonical text is that of two kinds
unfoldable pub any_moment : List ℕ → Option Value
any_moment digits =
    or_else (moment_of form.GYear digits) (or_else (moment_of form.GYearMonth digits) (or_else (moment_of form.Date digits) (or_else (moment_of form.DateTime digits)
    (or_else (moment_of form.GMonth digits) (or_else (moment_of form.GMonthDay digits) (or_else (moment_of form.GDay digits) (moment_of form.Time digits)))))))

-- the value that a word and a canonical text tell, but for strings, names and lists
unfoldable pub scalar_of : List ℕ → List ℕ → Option Value
scalar_of word digits =
    if bytes_eq word (codes "bool") then boolean_value true digits
    else if bytes_eq word (codes "int") then if_canonical digits (option_map integer (integer_in is_spelled digits))
    else if bytes_eq word (codes "dec") then if_canonical digits (option_map of_decimal (decimal_value digits))
    else if bytes_eq word (codes "flo") then if_canonical digits (option_map of_float (float_value digits))
    else if bytes_eq word (codes "mom") then any_moment digits
    else if bytes_eq word (codes "hex") then if_canonical digits (option_map (binary true) (hex_octets digits))
    else if bytes_eq word (codes "base64") then option_map (binary false) (base64_octets digits)
    else None

abbrev pub with_rest : {A : Type 0} → List ℕ → Option A → Option (A × List ℕ)
with_rest rest None = None
with_rest rest (Some a) = Some (a, rest)

-- the bytes up to the next quote, and what stands behind it
abbrev pub plain_at : List ℕ → Option (List ℕ × List ℕ)
plain_at bytes = option_map (λ rest. (before (is_mark 34) bytes, rest)) (behind (is_mark 34) bytes)

abbrev pub scalar_at : List ℕ → List ℕ → Option (Value × List ℕ)
scalar_at word bytes = do
  inside ← past (34 ∷ []) bytes
  plain ← plain_at inside
  with_rest plain.1 (scalar_of word plain.0)

-- an integer, behind the quote that opens its text
abbrev pub opened_integer : List ℕ → Option (Value × List ℕ)
opened_integer bytes = do
  plain ← plain_at bytes
  with_rest plain.1 (if_canonical plain.0 (option_map integer (integer_in is_spelled plain.0)))

abbrev pub text_value : List ℕ × List ℕ → Option (Value × List ℕ)
text_value found = Some (text found.0, found.1)

-- the same, behind the quote that opens it
abbrev pub opened_value : List ℕ → Option (Value × List ℕ)
opened_value bytes = opened_at bytes >>= text_value

abbrev pub name_value : QName × List ℕ → Option (Value × List ℕ)
name_value found = Some (name found.0, found.1)

-- the word in front of the first space, and what stands behind that space
abbrev pub word_at : List ℕ → Option (List ℕ × List ℕ)
word_at bytes = option_map (λ rest. (before (is_mark 32) bytes, rest)) (behind (is_mark 32) bytes)

-- a value that is neither a list nor a name, behind its word
unfoldable pub item_of : List ℕ × List ℕ → Option (Value × List ℕ)
item_of found = if bytes_eq found.0 (codes "text") then text_at found.1 >>= text_value else scalar_at found.0 found.1

abbrev pub item_at : List ℕ → Option (Value × List ℕ)
item_at bytes = word_at bytes >>= item_of

abbrev pub with_item : Value → Option (Values × List ℕ) → Option (Values × List ℕ)
with_item v None = None
with_item v (Some found) = Some (and v found.0, found.1)

-- so many values, each behind a space
abbrev pub items_at : ℕ → List ℕ → Option (Values × List ℕ)
items_at zero bytes = Some (no_more, bytes)
items_at (suc n) bytes = do
  start ← past (32 ∷ []) bytes
  first ← item_at start
  with_item first.0 (items_at n first.1)

-- the number that has these digits, without a 0 in front
abbrev pub if_shortest : List ℕ → Option ℕ → Option ℕ
if_shortest digits None = None
if_shortest digits (Some n) = if bytes_eq (decimal n) digits then Some n else None

unfoldable pub number_of : List ℕ → Option ℕ
number_of digits = if_shortest digits (number_in digits)

-- what stands from the first space on
abbrev pub from_space : List ℕ → List ℕ
from_space bytes = drop (length (before (is_mark 32) bytes)) bytes

abbrev pub list_value : Values × List ℕ → Option (Value × List ℕ)
list_value found = Some (items found.0, found.1)

-- how many values, and each of them
unfoldable pub list_at : List ℕ → Option (Value × List ℕ)
list_at bytes = do
  n ← number_of (before (is_mark 32) bytes)
  found ← items_at n (from_space bytes)
  list_value found

unfoldable pub value_of : List ℕ × List ℕ → Option (Value × List ℕ)
value_of found =
    if bytes_eq found.0 (codes "list") then list_at found.1
    else if bytes_eq found.0 (codes "name") then name_at found.1 >>= name_value
    else item_of found

abbrev pub value_at : List ℕ → Option (Value × List ℕ)
value_at bytes = word_at bytes >>= value_of

-- ---- events
-- what was read, where nothing stands behind it
abbrev pub alone : {A : Type 0} → A × List ℕ → Option A
alone (a, []) = Some a
alone (a, b ∷ bytes) = None

abbrev pub bare : Happening → List ℕ → Option Happening
bare e rest = alone (e, rest)

abbrev pub start_in : List ℕ → Option Happening
start_in rest = option_map event.se (past (32 ∷ []) rest >>= name_at >>= alone)

unfoldable pub attribute_in : List ℕ → Option Happening
attribute_in rest = do
  start ← past (32 ∷ []) rest
  named ← name_at start
  more ← past (32 ∷ []) named.1
  value ← value_at more
  option_map (event.at named.0) (alone value)

abbrev pub characters_in : List ℕ → Option Happening
characters_in rest = option_map event.ch (past (32 ∷ []) rest >>= value_at >>= alone)

-- characters that are an integer, behind the quote that opens its text
abbrev pub integer_characters : List ℕ → Option Happening
integer_characters inside = option_map event.ch (opened_integer inside >>= alone)

abbrev pub truth_of : List ℕ → Option Bool
truth_of word = if bytes_eq word (codes " true") then Some true else if bytes_eq word (codes " false") then Some false else None

unfoldable pub namespace_in : List ℕ → Option Happening
namespace_in rest = do
  uri ← also_at rest
  prefix ← also_at uri.1
  element ← truth_of prefix.1
  Some (event.ns uri.0 prefix.0 element)

-- a byte of the stream, below 2^64
abbrev pub place_of : ℕ → Option Happening
place_of n = if nat_lt n (2 ^ 64) then Some (event.sc n) else None

-- the place 0 may be left out
abbrev pub fragment_in : List ℕ → Option Happening
fragment_in [] = Some (event.sc 0)
fragment_in (b ∷ bytes) = past (32 ∷ []) (b ∷ bytes) >>= number_of >>= place_of

abbrev pub only_text : List ℕ → Option (List ℕ)
only_text rest = also_at rest >>= alone

unfoldable pub instruction_in : List ℕ → Option Happening
instruction_in rest = do
  target ← also_at rest
  content ← also_at target.1
  option_map (event.pi target.0) (alone content)

unfoldable pub doctype_in : List ℕ → Option Happening
doctype_in rest = do
  root ← also_at rest
  public ← also_at root.1
  system ← also_at public.1
  content ← also_at system.1
  option_map (event.dt root.0 public.0 system.0) (alone content)

-- by the two letters of its word
unfoldable pub event_of : List ℕ → List ℕ → Option Happening
event_of word rest =
    if bytes_eq word (codes "SE") then start_in rest
    else if bytes_eq word (codes "EE") then bare event.ee rest
    else if bytes_eq word (codes "CH") then characters_in rest
    else if bytes_eq word (codes "AT") then attribute_in rest
    else if bytes_eq word (codes "NS") then namespace_in rest
    else if bytes_eq word (codes "SC") then fragment_in rest
    else if bytes_eq word (codes "CM") then option_map event.cm (only_text rest)
    else if bytes_eq word (codes "PI") then instruction_in rest
    else if bytes_eq word (codes "DT") then doctype_in rest
    else if bytes_eq word (codes "ER") then option_map event.er (only_text rest)
    else if bytes_eq word (codes "SD") then bare event.sd rest
    else if bytes_eq word (codes "ED") then bare event.ed rest
    else None

-- the event that a line says
unfoldable pub event_in : List ℕ → Option Happening
event_in line = event_of (take 2 line) (drop 2 line)
