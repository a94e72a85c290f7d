use Rattle.std.proofs.Common.{sym, subst}
use Rattle.exi_gram.specs.Codes.{Productions}
use Rattle.exi_processing.specs.Rules.{Rule}
use Rattle.exi_choice.specs.Choices.{Finds, wanting}
use Rattle.exi_pen.proofs.pen.Pen.begin_outside.Goals as goal

pub begin_by-requires-clause-found : goal.begin_by-requires-clause-found
begin_by-requires-clause-found g c = subst (λ (rules : Productions Rule). Finds c.args.self.now.setting c.args.self.now.config.learned (wanting c.args.wanted) rules c.in_ok-found.found) (sym c.requires.rules) c.in_ok-found.ensures
