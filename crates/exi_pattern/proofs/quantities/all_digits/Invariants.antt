use Rattle.std.proofs.Common.{◌≡◌, drop}
use Rattle.exi_digits.specs.Digits.{all_digits}
use Rattle.exi_pattern.proofs.quantities.all_digits.Given as goal

abbrev pub invariant-loop-c : goal.invariant-loop-c
invariant-loop-c l = all_digits (drop l.c-index l.fn.text) ≡ all_digits l.fn.text
