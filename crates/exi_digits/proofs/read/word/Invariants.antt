use Rattle.std.proofs.Common.{◌≡◌, ◌<◌, ◌^◌, drop}
use Rattle.exi_digits.specs.Digits.{number_behind}
use Rattle.exi_digits.proofs.read.word.Given as goal

abbrev pub invariant-loop-digit : goal.invariant-loop-digit
invariant-loop-digit l = record {
  low : l.number < 10 ^ l.digit-index;
  left : number_behind l.number (drop l.digit-index l.digits) ≡ number_behind 0 l.fn.digits;
}
