use Rattle.exi_bits.proofs.InBytes.{number_read}
use Rattle.exi_bits.proofs.Below.{below_read}
use Rattle.exi_bits.proofs.UnsignedLaws.{unsigned_read}
use Rattle.exi_bits.proofs.laws.spelled_is_read.Goals as goal

pub returns : goal.returns
returns c = record { number = number_read; below = below_read; unsigned = unsigned_read }
