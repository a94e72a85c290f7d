use Rattle.exi_bits.proofs.InBytes.{number_read_back}
use Rattle.exi_bits.proofs.UnsignedLaws.{unsigned_read_back}
use Rattle.exi_bits.proofs.laws.written_is_read.Goals as goal

pub returns : goal.returns
returns c = record { number = number_read_back; unsigned = unsigned_read_back }
