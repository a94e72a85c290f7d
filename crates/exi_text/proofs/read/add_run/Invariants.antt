use Rattle.std.proofs.Common.{◌≡◌, ◌+◌, ◌≤◌, ◌%◌, length}
use Rattle.exi_bits.specs.Repeat.{times, with_front}
use Rattle.exi_text.specs.Literals.{code_at}
use Rattle.exi_text.proofs.read.add_run.Given as goal

abbrev pub invariant-loop-run : goal.invariant-loop-run
invariant-loop-run l = record {
  so_far : with_front l.text (times code_at l.left l.input) ≡ with_front l.fn.text (times code_at l.most l.fn.input);
  len : length l.room ≡ 64;
  within : l.left ≤ l.most;
  bytes : l.input.bytes ≡ l.fn.input.bytes;
  phase : l.input.place % 8 ≡ l.fn.input.place % 8;
}

abbrev pub decreases-loop-run : goal.decreases-loop-run
decreases-loop-run l = l.left + l.run
