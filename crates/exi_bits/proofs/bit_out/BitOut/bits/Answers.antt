use Rattle.std.proofs.Common.{arith}
use Rattle.exi_bits.proofs.Outs.{length-written}
use Rattle.exi_bits.proofs.bit_out.BitOut.bits.Goals as goal

pub returns : goal.returns
returns c = record { count = rw (← c.self.view_is, c.from.ensures, c.len.ensures) (omega (arith, length-written c.self.inside.bytes.items c.self.inside.spare c.self.invariant.within)) }
