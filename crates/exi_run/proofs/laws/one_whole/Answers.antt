use Rattle.exi_run.proofs.Wholes.{whole_there, one_whole_lem}
use Rattle.exi_run.proofs.laws.one_whole.Goals as goal

pub returns-clause-there : goal.returns-clause-there
returns-clause-there c = whole_there c.a_sequence_is_there.ensures.law

pub returns-clause-one : goal.returns-clause-one
returns-clause-one c = one_whole_lem c.one_sequence.ensures.law
