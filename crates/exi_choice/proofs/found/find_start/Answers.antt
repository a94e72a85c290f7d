use Rattle.exi_choice.specs.Choices.{wanting}
use Rattle.exi_choice.proofs.Starts.{found_start, not_started}
use Rattle.exi_choice.proofs.found.find_start.Goals as goal

pub returns-in-Some : goal.returns-in-Some
returns-in-Some c = λ g l. found_start g l (wanting c.args.wanted) c.in-Some.choice (rw c.in-Some.is at c.choose_start.ensures g l)

pub returns-in-None : goal.returns-in-None
returns-in-None c = λ g l. not_started g l (wanting c.args.wanted) (rw c.in-None.is at c.choose_start.ensures g l)
