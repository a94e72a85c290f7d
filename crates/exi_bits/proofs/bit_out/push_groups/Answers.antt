use Rattle.std.proofs.Common.{arith}
use Rattle.exi_bits.specs.Written.{written}
use Rattle.exi_bits.proofs.Outs.{group_next, group_last, group_end, rest_below}
use Rattle.exi_bits.proofs.bit_out.push_groups.Goals as goal

pub returns-then-rest-lt128-clause-bits : goal.returns-then-rest-lt128-clause-bits
returns-then-rest-lt128-clause-bits c =
    rw c.push_octet.ensures.bits (group_last (written c.loop.bytes.items c.args.spare) _ c.loop.counter c.loop.rest c.loop-test.true c.if-rest-lt128.true c.loop.invariant.so_far)

pub loop-preserved : goal.loop-preserved
loop-preserved c = record {
  so_far = rw c.push_octet-in-loop.ensures.bits (group_next (written c.loop.bytes.items c.args.spare) _ c.loop.counter c.loop.rest c.loop-test.true c.if-rest-lt128.false c.loop.invariant.so_far);
  padded = c.push_octet-in-loop.ensures.padded;
  below = rest_below c.loop.counter c.loop.rest c.loop-test.true c.loop.invariant.below;
  room = omega (arith, c.loop.invariant.room, c.push_octet-in-loop.ensures.room.0, c.push_octet-in-loop.ensures.room.1, c.loop-test.true);
}

pub returns-clause-bits : goal.returns-clause-bits
returns-clause-bits c =
    rw c.push_octet-2.ensures.bits (group_end (written c.loop.bytes.items c.args.spare) _ c.loop.counter c.loop.rest c.loop-test.false c.loop.invariant.so_far)
