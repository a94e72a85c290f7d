use Rattle.exi_ways.proofs.Wholes.{documents_lead}
use Rattle.exi_ways.proofs.laws.documents_lead.Goals as goal

pub returns : goal.returns
returns c = record { law = documents_lead }
