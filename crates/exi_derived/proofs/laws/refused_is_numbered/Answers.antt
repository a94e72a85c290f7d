use Rattle.exi_derived.proofs.Fronts.{refused_is_numbered}
use Rattle.exi_derived.proofs.laws.refused_is_numbered.Goals as goal

pub returns : goal.returns
returns c = record { law = refused_is_numbered }
