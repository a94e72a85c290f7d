use Rattle.std.proofs.Common.{◌≡◌, ◌+◌, ◌-◌, ◌≤◌, ◌%◌, length, take}
use Rattle.std.specs.Str.{IsAscii, IsUtf8, chars}
use Rattle.exi_bits.specs.Repeat.{times, with_front}
use Rattle.exi_text.specs.Literals.{code_at}
use Rattle.exi_text.proofs.read.lay_run.Given as goal

abbrev pub invariant-loop-last : goal.invariant-loop-last
invariant-loop-last l = record {
  so_far : with_front (chars (take (l.at + l.count) l.room)) (times code_at (l.most - l.count) l.input) ≡ with_front (chars (take l.fn.at l.fn.room)) (times code_at l.most l.fn.input);
  utf8 : IsUtf8 (take (l.at + l.count) l.room);
  ascii : IsAscii (take l.fn.at l.fn.room) → IsAscii (take (l.at + l.count) l.room);
  within : l.count ≤ l.most;
  end : l.at + l.count ≤ length l.room;
  len : length l.room ≡ length l.fn.room;
  bytes : l.input.bytes ≡ l.fn.input.bytes;
  phase : l.input.place % 8 ≡ l.fn.input.place % 8;
}

abbrev pub decreases-loop-last : goal.decreases-loop-last
decreases-loop-last l = l.most - l.count + l.last
