use Rattle.exi_ways.proofs.Options.{codes_are_left}
use Rattle.exi_ways.proofs.laws.codes_are_left.Goals as goal

pub returns : goal.returns
returns c = record { law = codes_are_left }
