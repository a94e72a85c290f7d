use Rattle.std.proofs.Common.{◌≡◌, ◌<◌, ◌^◌, length}
use Rattle.std.specs.Prelude.{reverse}
use Rattle.exi_digits.specs.Digits.{back_in, number_behind}
use Rattle.exi_digits.proofs.read.back.Given as goal

abbrev pub invariant-loop-left : goal.invariant-loop-left
invariant-loop-left l = record {
  low : l.number < 2 ^ 128;
  left : number_behind l.number (reverse l.left) ≡ back_in l.fn.digits;
}

abbrev pub decreases-loop-left : goal.decreases-loop-left
decreases-loop-left l = length l.left
