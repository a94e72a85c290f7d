use Rattle.std.proofs.Common.{sym}
use Rattle.exi_writer.proofs.Lists.{ends_done}
use Rattle.exi_writer.proofs.list.ListWriter.finish.Goals as goal

pub returns-then-ended : goal.returns-then-ended
returns-then-ended g c = ends_done c.args.self c.self.inside.writer c.self.inside.number c.self.inside.refused c.finish.result c.self.view_is c.in_default.is (sym c.if-ended.ensures) c.finish.ensures
