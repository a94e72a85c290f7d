use Rattle.std.proofs.Common.{◌+◌, arith}
use Rattle.exi_names.specs.Events.{happens}
use Rattle.exi_writer.proofs.Lists.{none_before, takes_one}
use Rattle.exi_writer.proofs.list.ListWriter.push.Goals as goal

pub returns-in-Ok-clause-taken : goal.returns-in-Ok-clause-taken
returns-in-Ok-clause-taken g c =
    takes_one c.args.self.now c.self.inside.writer c.put_one.new.writer c.self.inside.number (c.self.inside.number + 1) c.self.inside.refused (happens c.args.event.now) c.self.view_is c.if-is_some.ensures (omega arith) c.in-Ok.ensures.put

pub returns-in-Ok-clause-refused : goal.returns-in-Ok-clause-refused
returns-in-Ok-clause-refused g c = none_before c.args.self.now _ c.self.inside.writer c.self.inside.number c.self.inside.refused c.self.view_is c.if-is_some.ensures

pub returns-in-Err-clause-refused : goal.returns-in-Err-clause-refused
returns-in-Err-clause-refused g c = none_before c.args.self.now _ c.self.inside.writer c.self.inside.number c.self.inside.refused c.self.view_is c.if-is_some.ensures
