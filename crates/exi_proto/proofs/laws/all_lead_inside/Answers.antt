use Rattle.exi_proto.proofs.Inside.{leads_inside}
use Rattle.exi_proto.proofs.laws.all_lead_inside.Goals as goal

pub returns : goal.returns
returns c = leads_inside
