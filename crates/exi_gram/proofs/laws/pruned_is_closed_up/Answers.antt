use Rattle.exi_gram.proofs.CodeLaws.{pruned_closed}
use Rattle.exi_gram.proofs.laws.pruned_is_closed_up.Goals as goal

pub returns : goal.returns
returns g c = pruned_closed
