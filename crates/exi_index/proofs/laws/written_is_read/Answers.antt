use Rattle.exi_index.proofs.Lines.{written_read}
use Rattle.exi_index.proofs.laws.written_is_read.Goals as goal

pub returns : goal.returns
returns c = written_read
