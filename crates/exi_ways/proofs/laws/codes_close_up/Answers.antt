use Rattle.exi_ways.proofs.Options.{codes_close_up}
use Rattle.exi_ways.proofs.laws.codes_close_up.Goals as goal

pub returns : goal.returns
returns c = record { law = codes_close_up }
