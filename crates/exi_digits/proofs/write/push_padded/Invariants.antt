use Rattle.std.proofs.Common.{◌-◌, ◌++◌, replicate}
use Rattle.std.specs.Prelude.{string_bytes}
use Rattle.exi_digits.specs.Digits.{padded}
use Rattle.exi_digits.proofs.Pushing.{Pushing}
use Rattle.exi_digits.proofs.write.push_padded.Given as goal

abbrev pub invariant-loop : goal.invariant-loop
invariant-loop l = Pushing (string_bytes l.fn.out) (padded l.fn.width l.fn.number) (replicate (l.width - l.counter) 48 ++ l.digits) (string_bytes l.out)
