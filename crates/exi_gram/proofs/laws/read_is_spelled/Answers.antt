use Rattle.exi_gram.proofs.CodeLaws.{code_spelled}
use Rattle.exi_gram.proofs.laws.read_is_spelled.Goals as goal

pub returns : goal.returns
returns g c = code_spelled
