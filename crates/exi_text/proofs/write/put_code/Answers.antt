use Rattle.std.proofs.Common.{arith}
use Rattle.exi_text.proofs.Codes.{code_one, code_two, code_three}
use Rattle.exi_text.proofs.write.put_code.Goals as goal

pub returns-then-code-lt128-clause-ok : goal.returns-then-code-lt128-clause-ok
returns-then-code-lt128-clause-ok c = rw (← code_one c.args.c c.from-code.result c.from-code.ensures (omega (arith, c.if-code-lt128.true))) c.put.ensures.ok

pub returns-then-behind-lt128-clause-ok : goal.returns-then-behind-lt128-clause-ok
returns-then-behind-lt128-clause-ok c = rw (← code_two c.args.c c.from-code.result c.from-code.ensures (omega (arith, c.if-code-lt128.false)) (omega (arith, c.if-behind-lt128.true))) c.put-then-behind-lt128.ensures.ok

pub returns-clause-ok : goal.returns-clause-ok
returns-clause-ok c = rw (← code_three c.args.c c.from-code.result c.from-code.ensures (omega (arith, c.if-code-lt128.false)) (omega (arith, c.if-behind-lt128.false)) (omega (arith, c.ranges.c))) c.put-2.ensures.ok
