-- Events as text, one line an event (our own format): a word for the event and what it holds, with one space between;
-- texts stand between quotes. A line is the list of its bytes, in UTF-8.
use Rattle.std.specs.Prelude.{ℕ, suc, ◌==◌, Bool, true, false, if◌then◌else◌, List, [], ◌∷◌, ◌++◌, Option, Some, None, codes, decimal, encode_utf8_all}
use Rattle.std.specs.List.{flat_map}
use Rattle.exi_names.specs.declared.names.QName.{QName}
use Rattle.exi_names.specs.Seen.{Value, Values, text, boolean, integer, float, moment, binary, items, name, no_more, and}
use Rattle.exi_names.specs.Seen as shape
use Rattle.exi_names.specs.Events as event
use Rattle.exi_names.specs.Events.{Happening}
use Rattle.exi_lexical.specs.Values.{canonical}

-- ---- texts
-- a quote, a backslash, a line feed, a carriage return and a tab stand behind a backslash; each other byte is itself
abbrev pub escaped : ℕ → List ℕ
escaped b =
    if b == 34 then codes "\\\""
    else if b == 92 then codes "\\\\"
    else if b == 10 then codes "\\n"
    else if b == 13 then codes "\\r"
    else if b == 9 then codes "\\t"
    else b ∷ []

-- bytes between quotes
abbrev pub between_quotes : List ℕ → List ℕ
between_quotes bytes = 34 ∷ bytes ++ 34 ∷ []

-- a text between quotes
abbrev pub quoted : List ℕ → List ℕ
quoted t = between_quotes (flat_map escaped (encode_utf8_all t))

-- one more text, behind a space
abbrev pub also : List ℕ → List ℕ
also t = 32 ∷ quoted t

abbrev pub also_prefix : Option (List ℕ) → List ℕ
also_prefix None = []
also_prefix (Some prefix) = also prefix

-- URI, local name and, where there is one, the prefix
abbrev pub name_words : QName → List ℕ
name_words n = quoted n.uri ++ also n.local ++ also_prefix n.prefix

-- ---- values
abbrev pub binary_word : Bool → List ℕ
binary_word true = codes "hex "
binary_word false = codes "base64 "

-- how many values
abbrev pub count : Values → ℕ
count no_more = 0
count (and v vs) = suc (count vs)

-- A value: its word and its canonical text. No canonical text but that of a string has a character that is escaped, or
-- one past ASCII.
abbrev mutual
  pub value_words : Value → List ℕ
  value_words (text t) = codes "text " ++ quoted t
  value_words (boolean truth digit) = codes "bool " ++ between_quotes (canonical (boolean truth digit))
  value_words (integer n) = codes "int " ++ between_quotes (canonical (integer n))
  value_words (shape.decimal minus whole back) = codes "dec " ++ between_quotes (canonical (shape.decimal minus whole back))
  value_words (float mantissa exponent) = codes "flo " ++ between_quotes (canonical (float mantissa exponent))
  value_words (moment m) = codes "mom " ++ between_quotes (canonical (moment m))
  value_words (binary hex octets) = binary_word hex ++ between_quotes (canonical (binary hex octets))
  -- how many values, and each of them
  value_words (items vs) = codes "list " ++ decimal (count vs) ++ each_value vs
  value_words (name n) = codes "name " ++ name_words n

  pub each_value : Values → List ℕ
  each_value no_more = []
  each_value (and v vs) = 32 ∷ value_words v ++ each_value vs

-- ---- events
abbrev pub truth_word : Bool → List ℕ
truth_word true = codes "true"
truth_word false = codes "false"

-- what an event says, without the line's end
abbrev pub words : Happening → List ℕ
words event.sd = codes "SD"
words event.ed = codes "ED"
words (event.se n) = codes "SE " ++ name_words n
words event.ee = codes "EE"
words (event.at n v) = codes "AT " ++ name_words n ++ 32 ∷ value_words v
words (event.ch v) = codes "CH " ++ value_words v
words (event.ns uri prefix element) = codes "NS " ++ quoted uri ++ also prefix ++ 32 ∷ truth_word element
words (event.sc place) = codes "SC " ++ decimal place
words (event.cm t) = codes "CM " ++ quoted t
words (event.pi target t) = codes "PI " ++ quoted target ++ also t
words (event.dt n public system t) = codes "DT " ++ quoted n ++ also public ++ also system ++ also t
words (event.er n) = codes "ER " ++ quoted n

-- the line of an event, with the line feed that ends it
unfoldable pub line_of : Happening → List ℕ
line_of e = words e ++ 10 ∷ []

-- the lines of events, one after another
abbrev pub lines_of : List Happening → List ℕ
lines_of es = flat_map line_of es
