-- What is spelled is read, and how long the spelling is at most.
use Rattle.std.specs.Prelude.{◌≡◌, ◌<◌, ◌≤◌, ◌^◌, ℕ, List, ◌++◌, length, Some}
use Rattle.exi_names.specs.Events as event
use Rattle.exi_tape.specs.Spelling.{spelled, spelled_all}
use Rattle.exi_tape.specs.Sound.{Sound}
use Rattle.exi_tape.specs.Reading.{event_at, read}
use Rattle.exi_tape.specs.Tapes.{AllSound, weight}

-- whatever bytes come after those that spell an event, it is read, and these bytes are left
abbrev pub SpelledIsRead : Type 0
SpelledIsRead = (e : event.Happening) (more : List ℕ) → Sound e → length (spelled e) < 2 ^ 64 → event_at (spelled e ++ more) ≡ Some (e, more)

-- the events whose bytes stand one after another are read
abbrev pub ListsAreRead : Type 0
ListsAreRead = (es : List event.Happening) → AllSound es → read (spelled_all es) ≡ es

-- no event is spelled by more bytes than its weight
abbrev pub WithinWeight : Type 0
WithinWeight = (e : event.Happening) → length (spelled e) ≤ weight e
