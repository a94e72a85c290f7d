use Rattle.exi_processing.proofs.Begins.{sc_leads_to_fragment}
use Rattle.exi_processing.proofs.laws.sc_leads_to_fragment.Goals as goal

pub returns : goal.returns
returns c = record { law = sc_leads_to_fragment }
