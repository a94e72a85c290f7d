use Rattle.exi_values.proofs.Values.{values_agree}
use Rattle.exi_values.proofs.laws.none_is_prefix.Goals as goal

pub returns : goal.returns
returns c = record { law = λ r a name. (values_agree r a name).is_no_prefix }
