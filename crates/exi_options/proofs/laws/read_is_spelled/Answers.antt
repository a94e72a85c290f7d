use Rattle.exi_options.proofs.SpelledSteps.{read_spelled}
use Rattle.exi_options.proofs.laws.read_is_spelled.Goals as goal

pub returns : goal.returns
returns c = read_spelled
