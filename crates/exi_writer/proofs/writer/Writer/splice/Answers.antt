use Rattle.exi_writer.proofs.Parts.{splice_may, spliced_level}
use Rattle.exi_writer.proofs.Putting.{on_err, waits_goes}
use Rattle.exi_writer.proofs.writer.Writer.splice.Goals as goal

pub splice-requires-clause-level : goal.splice-requires-clause-level
splice-requires-clause-level g c = spliced_level c.self.inside.pen c.self.inside.waits c.args.self.now c.self.view_is c.requires.waits c.requires.at_fragment

pub returns-clause-composed : goal.returns-clause-composed
returns-clause-composed g c = λ part. splice_may c.splices_are_runs.ensures.law c.self.inside.pen c.splice.new.self c.self.inside.waits c.args.self.now c.args.bits.now c.args.tally.now c.self.view_is c.requires.waits c.requires.at_fragment c.requires.whole c.requires.fitting c.in_ok-splice.ensures part

pub returns-in_err-splice-clause-refused : goal.returns-in_err-splice-clause-refused
returns-in_err-splice-clause-refused g c = on_err c.from_residual.result (waits_goes c.self.inside.pen c.splice.new.self c.self.inside.waits c.args.self.now c.self.view_is c.requires.waits)
