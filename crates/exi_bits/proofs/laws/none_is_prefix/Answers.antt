use Rattle.exi_bits.proofs.InBytes.{number_no_prefix}
use Rattle.exi_bits.proofs.UnsignedLaws.{unsigned_no_prefix}
use Rattle.exi_bits.proofs.laws.none_is_prefix.Goals as goal

pub returns : goal.returns
returns c = record { number = number_no_prefix; unsigned = unsigned_no_prefix }
