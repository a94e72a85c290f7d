use Rattle.std.proofs.Common.{arith}
use Rattle.exi_board.proofs.Sums.{below_once, once_above}
use Rattle.exi_board.proofs.laws.tried_once.Goals as goal

pub returns-clause-tried : goal.returns-clause-tried
returns-clause-tried g c = λ h lt. let seat = c.args.seat.now in omega (arith, seat.spans h, below_once h seat.next (omega (arith, seat.passed, lt)))

pub returns-clause-others : goal.returns-clause-others
returns-clause-others g c = λ h le. let seat = c.args.seat.now in omega (arith, seat.spans h, once_above h seat.next (omega (arith, seat.passed, le)))
