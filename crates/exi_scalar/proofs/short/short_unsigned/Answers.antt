use Rattle.std.proofs.Common.{arith}
use Rattle.exi_scalar.proofs.Words.{one_goes, three_go, two_go}
use Rattle.exi_scalar.proofs.short.short_unsigned.Goals as goal

pub returns-then-first-lt128-clause-read : goal.returns-then-first-lt128-clause-read
returns-then-first-lt128-clause-read c = one_goes c.in-Some.word c.at-past.result c.args.input.now c.take.new.self c.go_to_bit.new.self c.in-Some.ensures.read c.in-Some.ensures.place c.if-first-lt128.true c.at-past.ensures.place c.go_to_bit.ensures

pub returns-then-second-lt128-clause-read : goal.returns-then-second-lt128-clause-read
returns-then-second-lt128-clause-read c = two_go c.in-Some.word c.at-past.result c.args.input.now c.take.new.self c.go_to_bit-then-second-lt128.new.self c.in-Some.ensures.read c.in-Some.ensures.place (omega (arith, c.if-first-lt128.false)) c.if-second-lt128.true c.at-past.ensures.place c.go_to_bit-then-second-lt128.ensures

pub returns-then-third-lt128-clause-read : goal.returns-then-third-lt128-clause-read
returns-then-third-lt128-clause-read c = three_go c.in-Some.word c.args.input.now c.take.new.self c.in-Some.ensures.read c.in-Some.ensures.place (omega (arith, c.if-first-lt128.false)) (omega (arith, c.if-second-lt128.false)) c.if-third-lt128.true
