use Rattle.exi_pen.proofs.AtOnce.{text_is}
use Rattle.exi_pen.proofs.pen.Pen.put_text.Goals as goal

pub returns : goal.returns
returns g c = text_is _ c.args.self.now c.args.name c.args.text.now c.align-align.result c.write_string.new.out (g.T.Tables.held c.write_string.new.tables) c.self.view_is (rw c.options.ensures.options at c.align-align.ensures) c.in_ok-write_string.ensures.ok c.in_ok-write_string.ensures.tables
