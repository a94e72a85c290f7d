-- What a call that reads from the front of bytes tells of them, and the events of a whole text, line by line.
use Rattle.std.specs.Prelude.{◌≡◌, ◌||◌, ◌==◌, ℕ, suc, Bool, true, false, if◌then◌else◌, List, [], ◌∷◌, ◌++◌, take, drop, Option, Some, None, option_map, Result, Ok, Err}
use Rattle.std.specs.Str.{IsUtf8, bytes_eq, chars, is_utf8}
use Rattle.std.specs.List.{slice_split}
use Rattle.exi_names.specs.Events.{Happening, happens}
use Rattle.exi_names.specs.Lists as lists
use Rattle.exi_names.specs.declared.event.Event.{Event}
use Rattle.exi_names.specs.declared.event_list.EventList.{EventList}
use Rattle.exi_names.specs.declared.stops.TextStop.{TextStop}
use Rattle.exi_names.specs.declared.stops.TextStop.TheVariants as text_stop
use Rattle.exi_names.specs.declared.moment.Moment.{Moment}
use Rattle.exi_names.specs.declared.moment.MomentKind.TheVariants as form
use Rattle.exi_calendar.specs.Reading.{moment_value}
use Rattle.exi_digits.specs.Digits.{has_any}
use Rattle.exi_digits.specs.Splits.{before, is_mark}
use Rattle.exi_evtext.specs.declared.stop.LineStop.{LineStop}
use Rattle.exi_evtext.specs.declared.stop.LineStop.TheVariants as stop
use Rattle.exi_evtext.specs.Left.{LinesLeft}
use Rattle.exi_evtext.specs.Reading.{content_at, event_in, from_space, is_bare, number_of, or_else, unescaped}

-- ---- answers of calls
-- there is no reading; where memory was refused nothing is said
abbrev pub StopsAs : {Y : Type 0} → LineStop → Option Y → Type 0
StopsAs stop.Form read = read ≡ None
StopsAs stop.Memory read = Unit {0}

-- what was answered is what is read
abbrev pub Tells : {X Y : Type 0} → (X → Y) → Result X LineStop → Option Y → Type 0
Tells view (Ok x) read = read ≡ Some (view x)
Tells view (Err e) read = StopsAs e read

-- the same, with the bytes that are left behind it
abbrev pub Gives : {X Y : Type 0} → (X → Y) → Result X LineStop → Option (Y × List ℕ) → List ℕ → Type 0
Gives view (Ok x) read new = read ≡ Some (view x, new)
Gives view (Err e) read new = StopsAs e read

-- these bytes are left
abbrev pub Moves : {X : Type 0} → Result X LineStop → Option (List ℕ) → List ℕ → Type 0
Moves (Ok x) read new = read ≡ Some new
Moves (Err e) read new = StopsAs e read

-- no bytes, or some
abbrev pub Ends : {X : Type 0} → Result X LineStop → List ℕ → Type 0
Ends (Ok x) bytes = bytes ≡ []
Ends (Err e) bytes = (b : ℕ) × (more : List ℕ) × (bytes ≡ b ∷ more) × (e ≡ stop.Form)

-- the characters of the bytes, where these are UTF-8
abbrev pub Decodes : Result (List ℕ) LineStop → List ℕ → Type 0
Decodes (Ok t) bytes = (is_utf8 bytes ≡ true) × (t ≡ chars bytes)
Decodes (Err e) bytes = (is_utf8 bytes ≡ false) × (e ≡ stop.Form)

-- the bytes are these
abbrev pub IsSame : {X : Type 0} → Result X LineStop → List ℕ → List ℕ → Type 0
IsSame (Ok x) printed digits = bytes_eq printed digits ≡ true
IsSame (Err e) printed digits = (bytes_eq printed digits ≡ false) × (e ≡ stop.Form)

-- the number in front of the next space, at which one goes on
abbrev pub Counts : Result ℕ LineStop → List ℕ → List ℕ → Type 0
Counts (Ok n) old new = (number_of (before (is_mark 32) old) ≡ Some n) × (new ≡ from_space old)
Counts (Err e) old new = StopsAs e (number_of (before (is_mark 32) old))

-- ---- dates and times
-- the date or the time of the first kind of which the text is one
abbrev pub dated : List ℕ → Option Moment
dated digits =
    or_else (or_else (or_else (or_else (or_else (or_else (or_else (moment_value form.GYear digits) (moment_value form.GYearMonth digits)) (moment_value form.Date digits)) (moment_value form.DateTime digits))
    (moment_value form.GMonth digits)) (moment_value form.GMonthDay digits)) (moment_value form.GDay digits)) (moment_value form.Time digits)

-- ---- texts, run by run
-- a quote, a backslash, or what may not stand between quotes as it is
abbrev pub stops_run : ℕ → Bool
stops_run b = b == 34 || b == 92 || is_bare b

-- how many bytes in front stand for themselves
abbrev pub run_width : List ℕ → ℕ
run_width [] = 0
run_width (b ∷ bytes) = if stops_run b then 0 else suc (run_width bytes)

-- the byte that an escape stands for, behind its backslash, and what stands behind it
abbrev pub escape_at : List ℕ → Option (ℕ × List ℕ)
escape_at [] = None
escape_at (b ∷ bytes) = option_map (λ byte. (byte, bytes)) (unescaped b)

-- what stands behind a quote that closes; or the byte of an escape, and what stands behind it
abbrev pub mark_at : List ℕ → Option (Option ℕ × List ℕ)
mark_at [] = None
mark_at (b ∷ bytes) =
    if b == 34 then Some (None, bytes)
    else if b == 92 then option_map (λ found. (Some found.0, found.1)) (escape_at bytes)
    else None

-- the bytes that stand for themselves, and what stands behind them
abbrev pub run_at : List ℕ → List ℕ
run_at bytes = take (run_width bytes) bytes

abbrev pub behind_run : List ℕ → Option (Option ℕ × List ℕ)
behind_run bytes = mark_at (drop (run_width bytes) bytes)

-- one run of many is taken: an escape stood behind it, or the quote that closes
abbrev pub Runs : Result Bool LineStop → List ℕ → List ℕ → List ℕ → List ℕ → Type 0
Runs (Ok true) had has old new = (byte : ℕ) × (behind_run old ≡ Some (Some byte, new)) × (has ≡ (had ++ run_at old) ++ byte ∷ [])
Runs (Ok false) had has old new = (behind_run old ≡ Some (None, new)) × (has ≡ had ++ run_at old)
Runs (Err e) had has old new = StopsAs e (behind_run old)

-- bytes in front of those that are read
abbrev pub front : List ℕ → Option (List ℕ × List ℕ) → Option (List ℕ × List ℕ)
front before None = None
front before (Some found) = Some (before ++ found.0, found.1)

-- one step of many: more is to come, or the quote closed
abbrev pub Steps : Result Bool LineStop → List ℕ → List ℕ → List ℕ → List ℕ → Type 0
Steps (Ok true) had has old new = front had (content_at false old) ≡ front has (content_at false new)
Steps (Ok false) had has old new = front had (content_at false old) ≡ Some (has, new)
Steps (Err e) had has old new = StopsAs e (content_at false old)

-- what is read where a part is taken: more is to come, or the quote closed
abbrev pub behind_part : Bool → List ℕ → List ℕ → Option (List ℕ × List ℕ)
behind_part true bytes new = front bytes (content_at false new)
behind_part false bytes new = Some (bytes, new)

-- the characters of UTF-8 in front of what is read are put behind a text
pub record TakesPart (more : Bool) (text new_text old new : List ℕ) : Type 0 where
  pub bytes : List ℕ
  pub utf8 : IsUtf8 bytes
  pub is : new_text ≡ text ++ chars bytes
  pub read : content_at false old ≡ behind_part more bytes new

-- ---- a whole text
abbrev pub with_event : Happening → Result (List Happening) ℕ → Result (List Happening) ℕ
with_event e (Ok es) = Ok (e ∷ es)
with_event e (Err n) = Err n

-- the event of a line of this number, in front of those behind it
abbrev pub event_then : ℕ → Option Happening → Result (List Happening) ℕ → Result (List Happening) ℕ
event_then n None more = Err n
event_then n (Some e) more = with_event e more

-- the events of lines that are numbered from n on, or the number of the first line that says none; nothing may stand
-- behind the last line feed
abbrev pub events_of : ℕ → List (List ℕ) → Result (List Happening) ℕ
events_of n [] = Ok []
events_of n (last ∷ []) = if has_any last then Err n else Ok []
events_of n (line ∷ next ∷ more) = event_then n (event_in line) (events_of (suc n) (next ∷ more))

-- the events of a text, or the number, counted from 1, of the first line that says none
unfoldable pub events_in : List ℕ → Result (List Happening) ℕ
events_in bytes = events_of 1 (slice_split (is_mark 10) bytes)

-- what was answered is what the text says
abbrev pub Parses : Result EventList TextStop → Result (List Happening) ℕ → Type 0
Parses (Ok list) read = read ≡ Ok (lists.events_of list)
Parses (Err (text_stop.Syntax line)) read = read ≡ Err line
Parses (Err text_stop.Memory) read = Unit {0}

-- ---- a text, line by line
-- the events of what is left, or the number of the first line of it that says none
unfoldable pub events_left : LinesLeft → Result (List Happening) ℕ
events_left l = events_of l.line (slice_split (is_mark 10) l.bytes)

-- what was left says this event, and then what is left now; or it says no event more; or its first line says none, or memory was
-- refused, and the same is left
abbrev pub GivesNext : Result (Option Event) TextStop → LinesLeft → LinesLeft → Type 0
GivesNext (Ok (Some e)) old new = events_left old ≡ with_event (happens e) (events_left new)
GivesNext (Ok None) old new = (events_left old ≡ Ok []) × (new ≡ old)
GivesNext (Err (text_stop.Syntax line)) old new = (events_left old ≡ Err line) × (new ≡ old)
GivesNext (Err text_stop.Memory) old new = new ≡ old

-- what was left says the event that a room holds, and then what is left now; or it says no event more; or its first line says
-- none, or memory was refused, and the same is left
abbrev pub Fills : Result Bool TextStop → Happening → LinesLeft → LinesLeft → Type 0
Fills (Ok true) e old new = events_left old ≡ with_event e (events_left new)
Fills (Ok false) e old new = (events_left old ≡ Ok []) × (new ≡ old)
Fills (Err (text_stop.Syntax line)) e old new = (events_left old ≡ Err line) × (new ≡ old)
Fills (Err text_stop.Memory) e old new = new ≡ old
