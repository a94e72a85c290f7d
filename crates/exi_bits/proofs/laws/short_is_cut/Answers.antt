use Rattle.exi_bits.proofs.UnsignedLaws.{short_when, cut_short}
use Rattle.exi_bits.proofs.laws.short_is_cut.Goals as goal

pub returns : goal.returns
returns c = λ s. (short_when s, cut_short s)
