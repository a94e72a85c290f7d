use Rattle.exi_run.proofs.Wholes.{front_whole_lem}
use Rattle.exi_run.proofs.laws.front_of_whole.Goals as goal

pub returns : goal.returns
returns c = front_whole_lem c.one_sequence.ensures.law
