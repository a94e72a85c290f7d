use Rattle.exi_gram.proofs.CodeLaws.{code_read}
use Rattle.exi_gram.proofs.laws.spelled_is_read.Goals as goal

pub returns : goal.returns
returns g c = code_read
