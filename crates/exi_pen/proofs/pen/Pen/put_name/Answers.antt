use Rattle.std.proofs.Common.{sym, ◌∙◌}
use Rattle.exi_names.specs.Shown.{named}
use Rattle.exi_pen.proofs.Putting.{name_put, told_some}
use Rattle.exi_pen.proofs.pen.Pen.put_name.Goals as goal

pub returns-clause-put : goal.returns-clause-put
returns-clause-put g c = name_put c.self.view_is c.options-options.result.now (named c.args.name) c.in-Some.id c.put_name.new.out (g.T.Tables.held c.put_name.new.tables) c.args.toll.now c.put_name.new.toll c.options-options.ensures.options (sym c.in-Some.is ∙ c.in_ok-id.ensures.id) (told_some c.in_ok-id.id c.in-Some.id c.in_ok-id.ensures.bits c.in-Some.is) (told_some c.in_ok-id.id c.in-Some.id c.in_ok-id.ensures.tables c.in-Some.is) (told_some c.in_ok-id.id c.in-Some.id c.in_ok-id.ensures.toll c.in-Some.is)
