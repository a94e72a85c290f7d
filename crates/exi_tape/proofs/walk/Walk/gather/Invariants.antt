use Rattle.std.proofs.Common.{◌≡◌, ◌+◌, ◌++◌, length}
use Rattle.exi_tape.specs.Walks.{left}
use Rattle.exi_tape.proofs.walk.Walk.gather.Given as goal

abbrev pub invariant-loop-missing : goal.invariant-loop-missing
invariant-loop-missing l = record {
  so_far : l.self.pieces.items ++ left l.self ≡ left l.fn.self;
  count : l.missing + length l.self.pieces.items ≡ l.count;
}

abbrev pub decreases-loop-missing : goal.decreases-loop-missing
decreases-loop-missing l = l.missing
