use Rattle.exi_gram.proofs.CodeLaws.{placed_numbered}
use Rattle.exi_gram.proofs.laws.placed_is_numbered.Goals as goal

pub returns : goal.returns
returns g c = placed_numbered
