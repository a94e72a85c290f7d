-- What a tape is: a list of events, and the pages that it has.
use Rattle.std.specs.Prelude.{ℕ, List}
use Rattle.exi_names.specs.Events as event
use Rattle.exi_tape.specs.declared.tape.Tape.{Tape}
use Rattle.exi_tape.specs.Reading.{read}

-- the events in order
abbrev pub events_of : Tape → List event.Happening
events_of t = read t.roll.bytes

-- the numbers of its pages
abbrev pub pages_of : Tape → List ℕ
pages_of t = t.roll.pages
