use Rattle.exi_writer.proofs.Lists.{begins_first}
use Rattle.exi_writer.proofs.list.ListWriter.new.Goals as goal

pub returns-in-Ok-clause-begins : goal.returns-in-Ok-clause-begins
returns-in-Ok-clause-begins g c = begins_first c.args.head c.args.book.now c.args.limits c.in-Ok.writer c.in-Ok.ensures.starts
