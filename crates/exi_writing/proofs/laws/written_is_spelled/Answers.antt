use Rattle.exi_writing.proofs.Runs.{spelled_law}
use Rattle.exi_writing.proofs.laws.written_is_spelled.Goals as goal

pub returns : goal.returns
returns c = record { law = spelled_law }
