use Rattle.std.proofs.Common.{◌≡◌, ◌≤◌, [], length}
use Rattle.exi_index.specs.Hints.{hints_in, lines_from}
use Rattle.exi_index.proofs.Lines.{with_front}
use Rattle.exi_index.proofs.parse.parse_hints.Given as goal

abbrev pub invariant-loop-left : goal.invariant-loop-left
invariant-loop-left l = record {
  few : l.place ≤ 65537;
  so_far : hints_in l.fn.bytes ≡ with_front l.hints.items (lines_from l.place [] l.left);
}

abbrev pub decreases-loop-left : goal.decreases-loop-left
decreases-loop-left l = length l.left
