use Rattle.std.proofs.Common.{◌-◌, ◌≡◌}
use Rattle.exi_bits.specs.Bits.{IsAligned}
use Rattle.exi_bits.specs.Repeat.{times, with_front}
use Rattle.exi_text.specs.Literals.{in_set_at}
use Rattle.exi_text.proofs.read.characters.Given as goal

abbrev pub invariant-loop : goal.invariant-loop
invariant-loop l = record {
  so_far : with_front l.text (times (in_set_at l.set l.align) (l.count - l.counter) l.input) ≡ times (in_set_at l.set l.align) l.count l.fn.input;
  aligned : IsAligned l.align l.input;
  bytes : l.input.bytes ≡ l.fn.input.bytes;
}
