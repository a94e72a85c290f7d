use Rattle.std.proofs.Common.{arith}
use Rattle.exi_names.proofs.Together.{same_in}
use Rattle.exi_names.proofs.lanes.same_lanes.Goals as goal

pub returns : goal.returns
returns c = same_in c.args.bytes.now c.args.others.now c.args.at 16 c.first_set.result c.requires.bytes c.requires.others (omega arith) c.first_set.ensures
