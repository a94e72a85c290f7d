use Rattle.exi_pen.proofs.PutCodes.{informed_rules, informed_there}
use Rattle.exi_pen.proofs.pen.Pen.begin_kind_by.Goals as goal

pub begin_in_book-requires-clause-exists : goal.begin_in_book-requires-clause-exists
begin_in_book-requires-clause-exists g c = informed_there _ c.args.self.now c.in-Some.element c.in-Informed.grammar c.in-Informed.state c.in-Informed.empty c.innermost.result c.self.view_is c.innermost.ensures c.in-Some.is c.in-Informed.is c.requires.ready.elements

pub begin_in_book-requires-clause-rules : goal.begin_in_book-requires-clause-rules
begin_in_book-requires-clause-rules g c = informed_rules _ c.args.self.now c.in-Some.element c.in-Informed.grammar c.in-Informed.state c.in-Informed.empty c.innermost.result c.self.view_is c.innermost.ensures c.in-Some.is c.in-Informed.is
