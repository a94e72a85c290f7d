-- Hint text (our own format): on each line a number, where a self-contained element may begin, counted in bytes. A line
-- has 1 to 20 decimal digits, of a number below 2 ^ 64, and a line feed ends it. A text is the list of its bytes.
use Rattle.std.specs.Prelude.{◌≡◌, ℕ, suc, ◌^◌, ◌≤◌, ◌<◌, ◌==◌, ◌&&◌, Bool, true, nat_le, nat_lt, if◌then◌else◌, List, [], ◌∷◌, ◌++◌, length, Option, Some, None, Result, Ok, Err, decimal}
use Rattle.std.specs.List.{flat_map}
use Rattle.exi_digits.specs.Digits.{is_numeral, number_of}
use Rattle.exi_names.specs.declared.stops.TextStop.{TextStop}
use Rattle.exi_names.specs.declared.stops.TextStop.TheVariants as stop
use Rattle.exi_index.specs.declared.parse.TheConstants.{MOST_LINES}

-- ---- the spelling
-- the line, without its line feed, says the number
pub record Says (line : List ℕ) (hint : ℕ) : Type 0 where
  pub digits : is_numeral line ≡ true
  pub few : length line ≤ 20
  pub number : number_of line ≡ hint
  pub low : hint < 2 ^ 64

-- the text's first line says a number, and others stand behind it
pub record SaysFirst (text : List ℕ) (hint : ℕ) (others : List ℕ) : Type 0 where
  pub line : List ℕ
  pub parts : text ≡ line ++ 10 ∷ others
  pub says : Says line hint

-- each line of the text says its number
abbrev pub SaysAll : List ℕ → List ℕ → Type 0
SaysAll text [] = text ≡ []
SaysAll text (hint ∷ hints) = (others : List ℕ) × SaysFirst text hint others × SaysAll others hints

-- the line that is printed of a number
abbrev pub line_of : ℕ → List ℕ
line_of hint = decimal hint ++ 10 ∷ []

abbrev pub lines_of : List ℕ → List ℕ
lines_of hints = flat_map line_of hints

-- ---- the reading
-- how many lines a text has at most
abbrev pub most_lines : ℕ
most_lines = MOST_LINES

-- the number that a line says, without its line feed
abbrev pub is_hint : List ℕ → Bool
is_hint line = is_numeral line && (nat_le (length line) 20 && nat_lt (number_of line) (2 ^ 64))

abbrev pub hint_in : List ℕ → Option ℕ
hint_in line = if is_hint line then Some (number_of line) else None

-- what the line with this number says, counted from 1; there is no line behind the most
abbrev pub hint_on : ℕ → List ℕ → Option ℕ
hint_on place line = if nat_le place most_lines then hint_in line else None

-- the number of a line, before those of the lines behind it; else the place of the line that says none
abbrev pub in_front : ℕ → Result (List ℕ) ℕ → Result (List ℕ) ℕ
in_front hint (Ok hints) = Ok (hint ∷ hints)
in_front hint (Err place) = Err place

abbrev pub told : ℕ → Option ℕ → Result (List ℕ) ℕ → Result (List ℕ) ℕ
told place (Some hint) others = in_front hint others
told place None others = Err place

-- the text ends where a line has ended
abbrev pub ended : ℕ → List ℕ → Result (List ℕ) ℕ
ended place [] = Ok []
ended place (c ∷ cs) = Err place

-- the lines from the one with this number on, of which these bytes were read
unfoldable pub lines_from : ℕ → List ℕ → List ℕ → Result (List ℕ) ℕ
lines_from place line [] = ended place line
lines_from place line (c ∷ cs) =
    if c == 10 then told place (hint_on place line) (lines_from (suc place) [] cs) else lines_from place (line ++ c ∷ []) cs

-- the numbers of all lines; or the number of the first line that says none, counted from 1
unfoldable pub hints_in : List ℕ → Result (List ℕ) ℕ
hints_in text = lines_from 1 [] text

-- ---- what a call answers that reads: the numbers, or the line; of memory nothing is said
abbrev pub StopsAs : TextStop → Result (List ℕ) ℕ → Type 0
StopsAs (stop.Syntax place) read = read ≡ Err place
StopsAs stop.Memory read = Unit {0}

abbrev pub Parses : {X : Type 0} → (X → List ℕ) → Result X TextStop → Result (List ℕ) ℕ → Type 0
Parses view (Ok x) read = read ≡ Ok (view x)
Parses view (Err e) read = StopsAs e read
