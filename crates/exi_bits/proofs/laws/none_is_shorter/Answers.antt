use Rattle.exi_bits.proofs.UnsignedLaws.{none_shorter}
use Rattle.exi_bits.proofs.laws.none_is_shorter.Goals as goal

pub returns : goal.returns
returns c = none_shorter
