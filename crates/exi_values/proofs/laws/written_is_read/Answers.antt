use Rattle.exi_values.proofs.ReadBack.{values_read_back}
use Rattle.exi_values.proofs.laws.written_is_read.Goals as goal

pub returns : goal.returns
returns c = record { law = values_read_back }
