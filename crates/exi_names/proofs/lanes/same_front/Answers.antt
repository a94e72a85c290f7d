use Rattle.std.proofs.Common.{arith}
use Rattle.exi_names.proofs.Together.{front_same, whole_same}
use Rattle.exi_names.proofs.lanes.same_front.Goals.{then-front-lt-WIDE-via-then-front-lt-WIDE, then-front-lt-WIDE-via-else-front-lt-WIDE+then-count-le-WIDE}
use Rattle.exi_names.proofs.lanes.same_front.Goals as goal

pub returns-then-front-lt-WIDE : goal.returns-then-front-lt-WIDE
returns-then-front-lt-WIDE c =
    let front = c.same_lanes-front.ensures in
    front_same c.args.bytes.now c.args.others.now 16 c.args.count c.same_lanes-front.result (omega (arith, c.requires.bytes, c.requires.few)) (omega (arith, c.requires.others, c.requires.few)) front
    (λ lt. elim c.then-front-lt-WIDE.branch [
      | then-front-lt-WIDE-via-then-front-lt-WIDE w ↦ w.if-front-lt-WIDE.true
      | then-front-lt-WIDE-via-else-front-lt-WIDE+then-count-le-WIDE w ↦ omega (arith, lt, w.if-count-le-WIDE.true)
    ])

pub returns : goal.returns
returns c =
    whole_same c.args.bytes.now c.args.others.now 16 14 c.args.count c.same_lanes-front.result c.same_lanes.result (omega (arith, c.requires.bytes, c.requires.few)) (omega (arith, c.requires.others, c.requires.few)) (omega arith) (omega (arith, c.requires.few)) c.same_lanes-front.ensures (omega (arith, c.if-front-lt-WIDE.false)) c.same_lanes.ensures
