use Rattle.exi_pen.proofs.AtOnce.{some_any, special_here}
use Rattle.exi_pen.proofs.pen.Pen.special.Goals as goal

pub returns-clause-special : goal.returns-clause-special
returns-clause-special g c = special_here _ c.args.self.now c.in-Some.room c.args.wanted c.choose_special.result c.self.view_is (rw c.in-Some.is at c.room.ensures.rules) c.choose_special.ensures.choice

pub returns-clause-inside : goal.returns-clause-inside
returns-clause-inside g c = some_any c.choose_special.result (rw c.in-Some.is at c.room.ensures.inside)
