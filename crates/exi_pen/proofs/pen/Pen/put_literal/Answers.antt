use Rattle.exi_pen.proofs.Putting.{literal_put}
use Rattle.exi_pen.proofs.pen.Pen.put_literal.Goals as goal

pub returns-then-branch : goal.returns-then-branch
returns-then-branch g c = record { put = literal_put c.self.view_is c.options.result.now c.args.text.now c.in_ok-put_literal.field-0 c.put_literal.new.out c.args.toll.now c.put_literal.new.toll c.options.ensures.options c.in_ok-put_literal.ensures.can c.if-branch.true (c.in_ok-put_literal.ensures.bits c.if-branch.true) (c.in_ok-put_literal.ensures.toll c.if-branch.true) }
