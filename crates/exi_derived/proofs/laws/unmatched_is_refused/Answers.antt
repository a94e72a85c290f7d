use Rattle.exi_derived.proofs.Bodies.{unmatched_is_refused}
use Rattle.exi_derived.proofs.laws.unmatched_is_refused.Goals as goal

pub returns : goal.returns
returns c = record { law = unmatched_is_refused }
