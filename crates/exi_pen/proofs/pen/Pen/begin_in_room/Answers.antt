use Rattle.exi_choice.specs.Choices.{wanting}
use Rattle.exi_pen.proofs.PutCodes.{room_here}
use Rattle.exi_pen.proofs.pen.Pen.begin_in_room.Goals as goal

pub begin_by-requires-clause-found : goal.begin_by-requires-clause-found
begin_by-requires-clause-found g c = room_here (wanting c.args.wanted) _ c.args.self.now c.args.room c.in_ok-found.found c.self.view_is c.requires.rules c.in_ok-found.ensures
