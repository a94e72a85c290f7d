use Rattle.exi_builtin.proofs.LearningLaws.{firsts_after, others_after}
use Rattle.exi_builtin.proofs.laws.learns_in_front.Goals as goal

pub returns-clause-firsts : goal.returns-clause-firsts
returns-clause-firsts c = firsts_after

pub returns-clause-others : goal.returns-clause-others
returns-clause-others c = others_after
