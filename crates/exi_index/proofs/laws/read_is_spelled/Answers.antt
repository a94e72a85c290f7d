use Rattle.exi_index.proofs.Lines.{read_spelled}
use Rattle.exi_index.proofs.laws.read_is_spelled.Goals as goal

pub returns : goal.returns
returns c = read_spelled
