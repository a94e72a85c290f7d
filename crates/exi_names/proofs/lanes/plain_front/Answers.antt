use Rattle.std.proofs.Common.{arith}
use Rattle.std.proofs.lemmas.Bool.{leb-true}
use Rattle.exi_names.proofs.Together.{front_plain, whole_plain}
use Rattle.exi_names.proofs.lanes.plain_front.Goals as goal

pub returns-then-front-lt-WIDE : goal.returns-then-front-lt-WIDE
returns-then-front-lt-WIDE c = λ t. front_plain c.args.count c.args.bytes.now (λ k lt. c.plain_lanes-front.ensures.plain k (omega arith) (omega (arith, lt, leb-true _ _ t)))

pub returns : goal.returns
returns c = λ t.
    front_plain c.args.count c.args.bytes.now
    (whole_plain c.args.bytes.now 16 14 c.args.count c.plain_lanes-front.result c.plain_lanes.result (omega arith) c.plain_lanes-front.ensures (omega (arith, c.if-front-lt-WIDE.false)) c.plain_lanes.ensures (leb-true _ _ t))
