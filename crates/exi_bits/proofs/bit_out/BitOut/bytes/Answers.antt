use Rattle.exi_bits.proofs.Outs.{bytes_are}
use Rattle.exi_bits.proofs.bit_out.BitOut.bytes.Goals as goal

pub returns : goal.returns
returns c = record { bits = rw (← c.self.view_is, c.deref.ensures.value) (bytes_are c.self.inside.bytes.items c.self.inside.spare c.self.invariant) }
