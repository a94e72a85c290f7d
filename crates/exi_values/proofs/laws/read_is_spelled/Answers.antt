use Rattle.exi_values.proofs.Values.{values_agree}
use Rattle.exi_values.proofs.laws.read_is_spelled.Goals as goal

pub returns : goal.returns
returns c = record { law = λ r a name. (values_agree r a name).is_spelled }
