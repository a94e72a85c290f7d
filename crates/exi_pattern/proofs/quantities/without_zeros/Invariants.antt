use Rattle.std.proofs.Common.{◌≡◌, true, length}
use Rattle.exi_digits.specs.Digits.{all_digits, number_of}
use Rattle.exi_pattern.proofs.quantities.without_zeros.Given as goal

abbrev pub invariant-loop-rest : goal.invariant-loop-rest
invariant-loop-rest l = (number_of l.rest ≡ number_of l.fn.digits) × (all_digits l.rest ≡ true)

abbrev pub decreases-loop-rest : goal.decreases-loop-rest
decreases-loop-rest l = length l.rest
