use Rattle.std.proofs.Common.{◌≡◌, ◌<◌, ◌^◌, length}
use Rattle.exi_digits.specs.Digits.{number_behind}
use Rattle.exi_digits.proofs.read.number_behind.Given as goal

abbrev pub invariant-loop-left : goal.invariant-loop-left
invariant-loop-left l = record {
  low : l.number < 2 ^ 128;
  left : number_behind l.number l.left ≡ number_behind l.fn.before l.fn.digits;
}

abbrev pub decreases-loop-left : goal.decreases-loop-left
decreases-loop-left l = length l.left
