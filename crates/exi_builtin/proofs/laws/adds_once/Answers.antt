use Rattle.exi_builtin.proofs.LearningLaws.{once_characters, once_end, once_type}
use Rattle.exi_builtin.proofs.laws.adds_once.Goals as goal

pub returns-clause-types : goal.returns-clause-types
returns-clause-types c = once_type

pub returns-clause-characters : goal.returns-clause-characters
returns-clause-characters c = once_characters

pub returns-clause-ends : goal.returns-clause-ends
returns-clause-ends c = once_end
