use Rattle.exi_derived.proofs.Bodies.{wider_writes_the_same}
use Rattle.exi_derived.proofs.laws.wider_writes_the_same.Goals as goal

pub returns : goal.returns
returns c = record { law = wider_writes_the_same }
