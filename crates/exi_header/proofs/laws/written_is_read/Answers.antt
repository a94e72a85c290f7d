use Rattle.exi_header.proofs.Backs.{written_back}
use Rattle.exi_header.proofs.laws.written_is_read.Goals as goal

pub returns : goal.returns
returns c = written_back
