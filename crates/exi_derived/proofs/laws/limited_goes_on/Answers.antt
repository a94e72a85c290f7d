use Rattle.exi_derived.proofs.Bodies.{limited_goes_on}
use Rattle.exi_derived.proofs.laws.limited_goes_on.Goals as goal

pub returns : goal.returns
returns c = record { law = limited_goes_on }
