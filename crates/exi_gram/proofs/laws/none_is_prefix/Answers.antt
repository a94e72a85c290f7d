use Rattle.exi_gram.proofs.CodeLaws.{code_no_prefix}
use Rattle.exi_gram.proofs.laws.none_is_prefix.Goals as goal

pub returns : goal.returns
returns g c = code_no_prefix
