use Rattle.exi_gram.proofs.Chosen.{place_chosen}
use Rattle.exi_gram.proofs.laws.place_is_read.Goals as goal

pub returns : goal.returns
returns g c = λ p h a s. place_chosen p h a s
