use Rattle.exi_digits.specs.Splits.{is_either}
use Rattle.exi_digits.proofs.Splitting.{Passed}
use Rattle.exi_digits.proofs.split.split_at_either.Given as goal

abbrev pub invariant-loop-place : goal.invariant-loop-place
invariant-loop-place l = Passed (is_either l.fn.first l.fn.second) l.fn.text l.place
