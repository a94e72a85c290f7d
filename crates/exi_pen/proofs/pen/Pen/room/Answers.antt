use Rattle.exi_pen.proofs.PutCodes.{room_inside, room_rules, room_there}
use Rattle.exi_pen.proofs.pen.Pen.room.Goals as goal

pub returns-in-BuiltIn-clause-room : goal.returns-in-BuiltIn-clause-room
returns-in-BuiltIn-clause-room g c = room_there _ c.args.self.now c.in-Some.element c.in-BuiltIn.room c.innermost.result c.self.view_is c.innermost.ensures c.in-Some.is c.in-BuiltIn.is c.requires.there

pub returns-in-BuiltIn-clause-rules : goal.returns-in-BuiltIn-clause-rules
returns-in-BuiltIn-clause-rules g c = room_rules _ c.args.self.now c.in-Some.element c.in-BuiltIn.room c.innermost.result c.self.view_is c.innermost.ensures c.in-Some.is c.in-BuiltIn.is

pub returns-in-BuiltIn-clause-inside : goal.returns-in-BuiltIn-clause-inside
returns-in-BuiltIn-clause-inside g c = room_inside _ c.args.self.now c.in-Some.element c.innermost.result c.self.view_is c.innermost.ensures c.in-Some.is
