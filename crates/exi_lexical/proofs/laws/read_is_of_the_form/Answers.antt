use Rattle.exi_lexical.proofs.Again.{value_kept}
use Rattle.exi_lexical.proofs.laws.read_is_of_the_form.Goals as goal

pub returns : goal.returns
returns c = record { form = λ r t v e. (value_kept r t v e).of; text = λ r t v e. (value_kept r t v e).named }
