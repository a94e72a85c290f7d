use Rattle.exi_digits.specs.Splits.{is_mark}
use Rattle.exi_digits.proofs.Splitting.{Passed}
use Rattle.xsd_names.proofs.letters.split_at_mark.Given as goal

abbrev pub invariant-loop-place : goal.invariant-loop-place
invariant-loop-place l = Passed (is_mark l.fn.mark) l.fn.letters l.place
