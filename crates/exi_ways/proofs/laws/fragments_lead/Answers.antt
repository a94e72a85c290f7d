use Rattle.exi_ways.proofs.Wholes.{fragments_lead}
use Rattle.exi_ways.proofs.laws.fragments_lead.Goals as goal

pub returns : goal.returns
returns c = record { law = fragments_lead }
