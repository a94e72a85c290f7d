use Rattle.exi_bits.proofs.UnsignedLaws.{shortest_spelled}
use Rattle.exi_bits.proofs.laws.written_is_spelled.Goals as goal

pub returns : goal.returns
returns c = shortest_spelled
