use Rattle.exi_choice.specs.Choices.{wanting}
use Rattle.exi_pen.proofs.PutCodes.{alone_found, alone_there, book_found, start_found}
use Rattle.exi_pen.proofs.pen.Pen.find_outside.Goals as goal

pub returns-in-FragmentStart : goal.returns-in-FragmentStart
returns-in-FragmentStart g c = rw (← c.self.view_is) (start_found c.self.inside.book.now c.self.inside.overlay (wanting c.args.wanted) c.self.inside.outer c.find_start.result c.in-FragmentStart.is (c.find_start.ensures c.self.inside.book.now c.self.inside.overlay))

pub find_alone-requires : goal.find_alone-requires
find_alone-requires g c = record { there = alone_there _ c.args.self.now c.self.view_is c.in-AloneFirst.is c.requires.there }

pub returns-in-AloneFirst : goal.returns-in-AloneFirst
returns-in-AloneFirst g c = alone_found (wanting c.args.wanted) _ c.args.self.now c.find_alone.result c.self.view_is c.in-AloneFirst.is c.find_alone.ensures

pub returns-in-Book : goal.returns-in-Book
returns-in-Book g c = book_found (wanting c.args.wanted) _ c.args.self.now c.in-Book.grammar c.in-Book.state c.find_in_book.result c.self.view_is c.in-Book.is c.find_in_book.ensures
