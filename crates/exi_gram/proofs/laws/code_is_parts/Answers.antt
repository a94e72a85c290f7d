use Rattle.exi_gram.proofs.PartLaws.{code_parts_read}
use Rattle.exi_gram.proofs.laws.code_is_parts.Goals as goal

pub returns : goal.returns
returns g c = code_parts_read
