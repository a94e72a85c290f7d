use Rattle.exi_options.proofs.Written.{written_spelled}
use Rattle.exi_options.proofs.laws.written_is_spelled.Goals as goal

pub returns : goal.returns
returns c = written_spelled
