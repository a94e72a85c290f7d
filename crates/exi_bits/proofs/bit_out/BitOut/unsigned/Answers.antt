use Rattle.exi_bits.proofs.Outs.{same_phase}
use Rattle.exi_bits.proofs.bit_out.BitOut.unsigned.Goals as goal

pub returns-clause-phase : goal.returns-clause-phase
returns-clause-phase c =
    rw (← c.self.view_is) (same_phase c.push_groups.new.bytes.items c.self.inside.bytes.items c.self.inside.spare c.push_groups.ensures.padded.within c.self.invariant.within)
