use Rattle.exi_writer.proofs.Putting.{refused_charges, refused_goes}
use Rattle.exi_writer.proofs.writer.Writer.refuse.Goals as goal

pub returns-clause-refused : goal.returns-clause-refused
returns-clause-refused g c = refused_goes c.args.stop c.args.before c.self.inside.pen c.give_up.new.self c.self.inside.waits c.give_up.ensures

pub returns-clause-charged : goal.returns-clause-charged
returns-clause-charged g c = refused_charges c.args.stop c.args.before c.self.inside.pen c.give_up.new.self c.self.inside.waits c.args.self.now c.self.view_is c.give_up.ensures
