use Rattle.exi_processing.proofs.EventOne.{spelled_is_one}
use Rattle.exi_processing.proofs.laws.spelled_is_one.Goals as goal

pub returns : goal.returns
returns c = record { law = spelled_is_one }
