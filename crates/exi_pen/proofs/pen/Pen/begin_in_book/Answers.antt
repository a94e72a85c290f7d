use Rattle.exi_choice.specs.Choices.{wanting}
use Rattle.exi_pen.proofs.PutCodes.{book_here}
use Rattle.exi_pen.proofs.pen.Pen.begin_in_book.Goals as goal

pub begin_by-requires-clause-found : goal.begin_by-requires-clause-found
begin_by-requires-clause-found g c = book_here (wanting c.args.wanted) _ c.args.self.now c.args.grammar c.args.state c.in_ok-found.found c.self.view_is c.requires.rules c.in_ok-found.ensures
