use Rattle.exi_names.specs.Datatypes.{represented}
use Rattle.exi_names.specs.Seen.{seen}
use Rattle.exi_pen.proofs.Putting.{typed_put}
use Rattle.exi_pen.proofs.pen.Pen.put_typed.Goals as goal

pub returns : goal.returns
returns g c = record { put = typed_put c.self.view_is c.options-options.result.now (represented c.args.datatype.now) c.args.name (seen c.args.value.now) c.put_value.new.out (g.T.Tables.held c.put_value.new.tables) c.args.toll.now c.put_value.new.toll c.options-options.ensures.options c.requires.fits.spelled c.in_ok-put_value.ensures.bits c.in_ok-put_value.ensures.tables c.in_ok-put_value.ensures.toll }
