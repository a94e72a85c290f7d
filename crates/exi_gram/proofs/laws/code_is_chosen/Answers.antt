use Rattle.exi_gram.proofs.Chosen.{code_chosen}
use Rattle.exi_gram.proofs.laws.code_is_chosen.Goals as goal

pub returns : goal.returns
returns g c = λ p h a s. code_chosen p h a s
