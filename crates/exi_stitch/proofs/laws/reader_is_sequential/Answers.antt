use Rattle.exi_stitch.proofs.Sequential.{reader_is_sequential}
use Rattle.exi_stitch.proofs.laws.reader_is_sequential.Goals as goal

pub returns : goal.returns
returns c = record { law = reader_is_sequential }
