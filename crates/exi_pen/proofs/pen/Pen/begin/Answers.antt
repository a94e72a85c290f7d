use Rattle.exi_choice.specs.Choices.{wanting}
use Rattle.exi_pen.proofs.PutCodes.{built_in_here, informed_rules, informed_there, outside_rules}
use Rattle.exi_pen.proofs.pen.Pen.begin.Goals as goal

pub begin_by-requires-clause-found : goal.begin_by-requires-clause-found
begin_by-requires-clause-found g c = built_in_here (wanting c.args.wanted) _ c.args.self.now c.in-Some.element c.in-BuiltIn.room c.innermost.result c.in_ok-found-in-BuiltIn.found c.self.view_is c.innermost.ensures c.in-Some.is c.in-BuiltIn.is c.in_ok-found-in-BuiltIn.ensures

pub begin_in_book-requires-clause-exists : goal.begin_in_book-requires-clause-exists
begin_in_book-requires-clause-exists g c = informed_there _ c.args.self.now c.in-Some.element c.in-Informed.grammar c.in-Informed.state c.in-Informed.empty c.innermost.result c.self.view_is c.innermost.ensures c.in-Some.is c.in-Informed.is c.requires.ready.elements

pub begin_in_book-requires-clause-rules : goal.begin_in_book-requires-clause-rules
begin_in_book-requires-clause-rules g c = informed_rules _ c.args.self.now c.in-Some.element c.in-Informed.grammar c.in-Informed.state c.in-Informed.empty c.innermost.result c.self.view_is c.innermost.ensures c.in-Some.is c.in-Informed.is

pub begin_outside-requires-clause-rules : goal.begin_outside-requires-clause-rules
begin_outside-requires-clause-rules g c = outside_rules _ c.args.self.now c.innermost.result c.self.view_is c.innermost.ensures c.in-None.is
