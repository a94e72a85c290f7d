use Rattle.exi_tape.proofs.Lists.{read_back}
use Rattle.exi_tape.proofs.laws.lists_are_read.Goals as goal

pub returns : goal.returns
returns c = read_back
