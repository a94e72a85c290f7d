use Rattle.exi_typed.proofs.Standing.{names_go_on, names_stand}
use Rattle.exi_typed.proofs.laws.names_stand.Goals as goal

pub returns : goal.returns
returns c = record { stand = names_stand; kept = names_go_on }
