use Rattle.exi_values.proofs.Goings.{values_go_on}
use Rattle.exi_values.proofs.laws.reading_goes_on.Goals as goal

pub returns : goal.returns
returns c = record { law = values_go_on }
