use Rattle.std.specs.Prelude.{Bool}
use Rattle.exi_names.specs.Events.{happens}
use Rattle.exi_writer.proofs.Putting.{left_there, puts_refused, refused_uncharged}
use Rattle.exi_writer.proofs.writer.Writer.put.Goals as goal

pub put_left-requires-clause-left : goal.put_left-requires-clause-left
put_left-requires-clause-left g c = left_there c.self.inside.pen c.self.inside.waits c.args.self.now (happens c.args.event.now) c.self.view_is c.if-prunes.ensures

pub returns-in-Err-clause-put : goal.returns-in-Err-clause-put
returns-in-Err-clause-put g c = rw c.refuse.ensures.stop (puts_refused c.in-Err.stop c.charged-before.result c.args.self.now c.put_left.new.self c.refuse.new.self _ c.refuse.ensures.charged c.in-Err.ensures.put)

pub returns-in-Err-clause-uncharged : goal.returns-in-Err-clause-uncharged
returns-in-Err-clause-uncharged g c = rw c.refuse.ensures.stop (refused_uncharged Bool c.in-Err.stop c.charged-before.result c.args.self.now c.put_left.new.self c.refuse.new.self c.charged-before.ensures c.refuse.ensures.charged)
