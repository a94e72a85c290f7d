use Rattle.std.proofs.Common.{sym, ◌∙◌}
use Rattle.exi_names.specs.Shown.{named}
use Rattle.exi_pen.proofs.Putting.{told_some, under_put}
use Rattle.exi_pen.proofs.pen.Pen.put_under.Goals as goal

pub returns-clause-put : goal.returns-clause-put
returns-clause-put g c = under_put c.self.view_is c.options-options.result.now c.args.uri (named c.args.name) c.in-Some.id c.put_under.new.out (g.T.Tables.held c.put_under.new.tables) c.args.toll.now c.put_under.new.toll c.options-options.ensures.options (sym c.in-Some.is ∙ c.in_ok-id.ensures.id) (told_some c.in_ok-id.id c.in-Some.id c.in_ok-id.ensures.bits c.in-Some.is) (told_some c.in_ok-id.id c.in-Some.id c.in_ok-id.ensures.tables c.in-Some.is) (told_some c.in_ok-id.id c.in-Some.id c.in_ok-id.ensures.toll c.in-Some.is)
