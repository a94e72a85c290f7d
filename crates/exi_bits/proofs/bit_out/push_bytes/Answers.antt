use Rattle.std.proofs.Common.{arith, ◌∙◌}
use Rattle.exi_bits.proofs.Outs.{byte_next, bytes_none}
use Rattle.exi_bits.proofs.bit_out.push_bytes.Goals as goal

pub loop-preserved : goal.loop-preserved
loop-preserved c = record {
  so_far = rw c.push_reserved.ensures.items (byte_next c.loop.bytes.items c.args.count c.loop.counter c.loop.rest c.loop-test.true ∙ c.loop.invariant.so_far);
  room = omega (arith, c.loop.invariant.room, c.push_reserved.ensures.len, c.push_reserved.ensures.capacity, c.loop-test.true);
}

pub returns : goal.returns
returns c = record { bytes = bytes_none c.loop.bytes.items _ c.args.count c.loop.counter c.loop.rest c.loop-test.false c.loop.invariant.so_far }
