use Rattle.exi_lexical.proofs.Again.{written_read}
use Rattle.exi_lexical.proofs.laws.written_is_read.Goals as goal

pub returns : goal.returns
returns c = written_read
