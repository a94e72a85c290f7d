use Rattle.exi_pen.proofs.Putting.{declaration_put}
use Rattle.exi_pen.proofs.pen.Pen.put_declaration.Goals as goal

pub returns-then-branch : goal.returns-then-branch
returns-then-branch g c = record { put = declaration_put c.self.view_is c.options-options.result.now (record { uri = c.args.uri.now; prefix = c.args.prefix.now; element = c.args.element }) c.in_ok-put_declaration.field-0 c.put_declaration.new.out (g.T.Tables.held c.put_declaration.new.tables) c.args.toll.now c.put_declaration.new.toll c.options-options.ensures.options c.in_ok-put_declaration.ensures.can c.if-branch.true (c.in_ok-put_declaration.ensures.bits c.if-branch.true) (c.in_ok-put_declaration.ensures.tables c.if-branch.true) (c.in_ok-put_declaration.ensures.toll c.if-branch.true) }
