use Rattle.exi_bits.specs.Written.{IsWholeBytes}
use Rattle.exi_cases.proofs.fields.zeros.Given as goal

abbrev pub invariant-loop : goal.invariant-loop
invariant-loop l = IsWholeBytes l.align l.out
