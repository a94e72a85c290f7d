use Rattle.exi_lexical.proofs.Again.{value_kept}
use Rattle.exi_lexical.proofs.laws.value_comes_back.Goals as goal

pub returns : goal.returns
returns c = λ r t v e. (value_kept r t v e).again
