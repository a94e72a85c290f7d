use Rattle.exi_values.proofs.Written.{values_written}
use Rattle.exi_values.proofs.laws.written_is_spelled.Goals as goal

pub returns : goal.returns
returns c = record { law = values_written }
