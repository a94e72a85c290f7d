use Rattle.exi_tape.proofs.Weights.{spelled_most}
use Rattle.exi_tape.proofs.laws.within_weight.Goals as goal

pub returns : goal.returns
returns c = spelled_most
