use Rattle.exi_gram.proofs.StateSets.{state_set}
use Rattle.exi_gram.proofs.laws.state_is_code_set.Goals as goal

pub returns : goal.returns
returns g c = λ p h. state_set p h
