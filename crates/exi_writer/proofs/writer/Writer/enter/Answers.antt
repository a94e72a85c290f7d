use Rattle.std.specs.Prelude.{Ok, Err}
use Rattle.exi_writer.proofs.Entering.{enters_fits}
use Rattle.exi_writer.proofs.Putting.{enters_refused, refused_uncharged}
use Rattle.exi_writer.proofs.writer.Writer.enter.Goals as goal

pub returns-in-Err-clause-entered : goal.returns-in-Err-clause-entered
returns-in-Err-clause-entered g c = rw c.refuse.ensures.stop (enters_refused c.in-Err.stop c.charged-before.result c.args.self.now c.go_in.new.self c.refuse.new.self _ c.refuse.ensures.charged c.in-Err.ensures.entered)

pub returns-in-Err-clause-uncharged : goal.returns-in-Err-clause-uncharged
returns-in-Err-clause-uncharged g c = rw c.refuse.ensures.stop (refused_uncharged (Unit {0}) c.in-Err.stop c.charged-before.result c.args.self.now c.go_in.new.self c.refuse.new.self c.charged-before.ensures c.refuse.ensures.charged)

pub returns-in-Ok-clause-name : goal.returns-in-Ok-clause-name
returns-in-Ok-clause-name g c = enters_fits (Ok tt) c.args.self.now c.go_in.new.self c.requires.at_fragment c.in-Ok.ensures.entered

pub returns-in-Err-clause-name : goal.returns-in-Err-clause-name
returns-in-Err-clause-name g c = rw c.refuse.ensures.stop (enters_fits (Err c.in-Err.stop) c.args.self.now c.go_in.new.self c.requires.at_fragment c.in-Err.ensures.entered)
