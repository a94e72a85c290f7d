use Rattle.exi_bits.proofs.Outs.{same_phase}
use Rattle.exi_bits.proofs.bit_out.BitOut.octets.Goals as goal

pub returns-clause-phase : goal.returns-clause-phase
returns-clause-phase c =
    rw (← c.self.view_is) (same_phase c.push_octets.new.bytes.items c.self.inside.bytes.items c.self.inside.spare c.push_octets.ensures.padded.within c.self.invariant.within)
