use Rattle.std.proofs.Common.{◌≡◌, ◌-◌, ◌%◌}
use Rattle.exi_bits.specs.Repeat.{times, with_front}
use Rattle.exi_text.specs.Literals.{code_at}
use Rattle.exi_text.proofs.read.add_codes.Given as goal

abbrev pub invariant-loop-before : goal.invariant-loop-before
invariant-loop-before l = record {
  so_far : with_front l.text (times code_at (l.most - l.before) l.input) ≡ with_front l.fn.text (times code_at l.most l.fn.input);
  bytes : l.input.bytes ≡ l.fn.input.bytes;
  phase : l.input.place % 8 ≡ l.fn.input.place % 8;
}
