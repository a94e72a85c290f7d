use Rattle.exi_bits.proofs.Outs.{pad_is}
use Rattle.exi_bits.proofs.bit_out.BitOut.pad.Goals as goal

pub returns : goal.returns
returns c = record { bits = rw (← c.self.view_is) (pad_is c.self.inside.bytes.items c.self.inside.spare c.self.invariant) }
