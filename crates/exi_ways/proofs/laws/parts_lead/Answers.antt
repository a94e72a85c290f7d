use Rattle.exi_ways.proofs.Parts.{parts_lead}
use Rattle.exi_ways.proofs.laws.parts_lead.Goals as goal

pub returns : goal.returns
returns c = record { law = parts_lead }
