use Rattle.std.proofs.Common.{length}
use Rattle.exi_evtext.specs.Parsing.{events_left}
use Rattle.exi_run.proofs.Writes.{IsUnder}
use Rattle.exi_run.proofs.compose.write_lines.Given as goal

abbrev pub invariant-loop-room : goal.invariant-loop-room
invariant-loop-room g l = IsUnder (events_left l.lines) (events_left l.fn.lines) (length l.lines.bytes) l.fn.list l.list

abbrev pub decreases-loop-room : goal.decreases-loop-room
decreases-loop-room g l = length l.lines.bytes
