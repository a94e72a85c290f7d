use Rattle.exi_options.proofs.Written.{written_read}
use Rattle.exi_options.proofs.laws.written_is_read.Goals as goal

pub returns : goal.returns
returns c = written_read
