use Rattle.exi_bits.specs.Bits.{bits}
use Rattle.exi_bits.proofs.BitLaws.{value_below_at}
use Rattle.exi_bits.proofs.words.last_bits_in.Goals as goal

pub returns-clause-below : goal.returns-clause-below
returns-clause-below c = rw c.last_bits_at.ensures (value_below_at c.args.width c.args.place (bits c.args.bytes.now))
