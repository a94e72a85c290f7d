use Rattle.exi_bits.proofs.WidthLaws.{width_least}
use Rattle.exi_bits.proofs.laws.width_is_least.Goals as goal

pub returns : goal.returns
returns c = width_least
