use Rattle.std.proofs.Common.{◌≡◌, ◌<◌, ◌≤◌, ◌^◌, ◌-◌, length}
use Rattle.std.specs.Prelude.{reverse}
use Rattle.exi_digits.specs.Digits.{number_behind}
use Rattle.exi_digits.proofs.read.word_back.Given as goal

abbrev pub invariant-loop-digit : goal.invariant-loop-digit
invariant-loop-digit l = record {
  within : length l.digit-iterator.iter.rest.now ≤ length l.fn.digits;
  low : l.number < 10 ^ (length l.fn.digits - length l.digit-iterator.iter.rest.now);
  left : number_behind l.number (reverse l.digit-iterator.iter.rest.now) ≡ number_behind 0 (reverse l.fn.digits);
}
