use Rattle.exi_builtin.proofs.Rules.{rules_are}
use Rattle.exi_builtin.proofs.laws.rules_are_productions.Goals as goal

pub returns : goal.returns
returns c = rules_are
