use Rattle.exi_processing.proofs.Endings.{ends_at_ed}
use Rattle.exi_processing.proofs.laws.ends_at_ed.Goals as goal

pub returns : goal.returns
returns c = record { law = ends_at_ed }
