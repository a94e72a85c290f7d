use Rattle.exi_proto.proofs.Counted.{counted}
use Rattle.exi_proto.proofs.laws.counted_is_made.Goals as goal

pub returns : goal.returns
returns c = counted
