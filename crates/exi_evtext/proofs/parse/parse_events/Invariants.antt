use Rattle.std.proofs.Common.{◌≡◌, length}
use Rattle.exi_names.specs.Lists.{events_of}
use Rattle.exi_evtext.specs.Parsing.{events_in, events_left}
use Rattle.exi_evtext.proofs.LineWise.{after}
use Rattle.exi_evtext.proofs.parse.parse_events.Given as goal

-- the events so far stand in front of those of what is left
abbrev pub invariant-loop-lines : goal.invariant-loop-lines
invariant-loop-lines l = after (events_of l.events) (events_left l.lines) ≡ events_in l.bytes

abbrev pub decreases-loop-lines : goal.decreases-loop-lines
decreases-loop-lines l = length l.lines.bytes
