use Rattle.exi_bits.proofs.InBytes.{number_spelled}
use Rattle.exi_bits.proofs.Below.{below_spelled}
use Rattle.exi_bits.proofs.UnsignedLaws.{unsigned_spelled}
use Rattle.exi_bits.proofs.laws.read_is_spelled.Goals as goal

pub returns : goal.returns
returns c = record { number = number_spelled; below = below_spelled; unsigned = unsigned_spelled }
