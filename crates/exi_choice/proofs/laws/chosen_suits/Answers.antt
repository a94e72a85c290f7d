use Rattle.exi_choice.proofs.Picking.{chosen_picked}
use Rattle.exi_choice.proofs.laws.chosen_suits.Goals as goal

pub returns : goal.returns
returns c = record { law = chosen_picked }
