-- The laws between lines and the events that they say.
use Rattle.std.specs.Prelude.{◌≡◌, List, [], ◌∷◌, Some, Ok, ℕ}
use Rattle.exi_names.specs.Events.{Happening}
use Rattle.exi_evtext.specs.Lines.{lines_of}
use Rattle.exi_evtext.specs.Reading.{event_in}
use Rattle.exi_evtext.specs.Parsing.{events_in}
use Rattle.exi_evtext.specs.Spelling.{IsEvent, Says, SaysAll}

abbrev pub ReadIsSpelled : Type 0
ReadIsSpelled = (line : List ℕ) (e : Happening) → event_in line ≡ Some e → Says line e

abbrev pub SpelledIsRead : Type 0
SpelledIsRead = (line : List ℕ) (e : Happening) → Says line e → event_in line ≡ Some e

-- each of them can be said
abbrev pub AreEvents : List Happening → Type 0
AreEvents [] = Unit {0}
AreEvents (e ∷ es) = IsEvent e × AreEvents es

-- what is printed says the events
abbrev pub PrintedIsRead : Type 0
PrintedIsRead = (es : List Happening) → AreEvents es → SaysAll (lines_of es) es

-- a text is read as the events that its lines say, and no others
abbrev pub TextIsSpelled : Type 0
TextIsSpelled = (bytes : List ℕ) (es : List Happening) → events_in bytes ≡ Ok es → SaysAll bytes es

abbrev pub TextIsRead : Type 0
TextIsRead = (bytes : List ℕ) (es : List Happening) → SaysAll bytes es → events_in bytes ≡ Ok es

-- what is printed is read again
abbrev pub PrintedIsParsed : Type 0
PrintedIsParsed = (es : List Happening) → AreEvents es → events_in (lines_of es) ≡ Ok es

-- a text says one list of events at most
abbrev pub TextIsOne : Type 0
TextIsOne = (bytes : List ℕ) (es fs : List Happening) → SaysAll bytes es → SaysAll bytes fs → es ≡ fs
