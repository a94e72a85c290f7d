use Rattle.std.proofs.Common.{◌≤◌, length}
use Rattle.exi_tape.specs.Lists.{events_of}
use Rattle.exi_tape.specs.Walks.{left}
use Rattle.exi_tape.proofs.Plays.{Playing}
use Rattle.exi_tape.proofs.tape.Tape.play.Given as goal

abbrev pub invariant-loop-alloc : goal.invariant-loop-alloc
invariant-loop-alloc g l = record {
  playing : Playing g.E.EventOut.took (events_of l.self) l.fn.out l.out (left l.walk);
  same : g.E.EventOut.same l.fn.out l.out;
  later : g.E.EventOut.stops l.fn.out ≤ g.E.EventOut.stops l.out;
}

abbrev pub decreases-loop-alloc : goal.decreases-loop-alloc
decreases-loop-alloc g l = length (left l.walk)
