use Rattle.exi_gram.proofs.CodeTells.{code_of_state}
use Rattle.exi_gram.proofs.laws.code_is_of_state.Goals as goal

pub returns : goal.returns
returns g c = code_of_state
