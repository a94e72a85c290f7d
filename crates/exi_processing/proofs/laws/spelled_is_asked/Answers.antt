use Rattle.exi_processing.proofs.Asked.{spelled_is_asked}
use Rattle.exi_processing.proofs.laws.spelled_is_asked.Goals as goal

pub returns : goal.returns
returns c = record { law = spelled_is_asked }
