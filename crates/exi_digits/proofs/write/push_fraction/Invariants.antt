use Rattle.std.specs.Prelude.{reverse, string_bytes}
use Rattle.exi_digits.specs.Digits.{fraction_of}
use Rattle.exi_digits.proofs.Pushing.{Pushing}
use Rattle.exi_digits.proofs.write.push_fraction.Given as goal

abbrev pub invariant-loop-digit : goal.invariant-loop-digit
invariant-loop-digit l = Pushing (string_bytes l.fn.out) (fraction_of l.fn.back) (reverse l.digit-iterator.iter.rest.now) (string_bytes l.out)
