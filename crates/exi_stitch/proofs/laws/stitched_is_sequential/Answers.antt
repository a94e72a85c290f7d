use Rattle.exi_stitch.proofs.Stages.{stitched_is_sequential}
use Rattle.exi_stitch.proofs.laws.stitched_is_sequential.Goals as goal

pub returns : goal.returns
returns c = record { law = stitched_is_sequential }
