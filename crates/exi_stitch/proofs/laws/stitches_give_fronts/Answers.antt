use Rattle.exi_stitch.proofs.Stages.{stitches_give_fronts}
use Rattle.exi_stitch.proofs.laws.stitches_give_fronts.Goals as goal

pub returns : goal.returns
returns c = record { law = stitches_give_fronts }
