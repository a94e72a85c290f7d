use Rattle.exi_gram.proofs.CodeTells.{code_on}
use Rattle.exi_gram.proofs.laws.code_goes_on.Goals as goal

pub returns : goal.returns
returns g c = code_on
