use Rattle.exi_gram.proofs.CodeLaws.{mapped_read}
use Rattle.exi_gram.proofs.laws.mapped_is_read.Goals as goal

pub returns : goal.returns
returns g c = mapped_read
