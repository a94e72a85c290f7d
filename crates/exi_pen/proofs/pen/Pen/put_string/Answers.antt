use Rattle.std.proofs.Common.{refl, sym, true}
use Rattle.exi_pen.proofs.Putting.{string_put}
use Rattle.exi_pen.proofs.pen.Pen.put_string.Goals as goal

pub returns : goal.returns
returns g c = record { put = string_put c.self.view_is c.options-options.result.now c.args.name c.args.text.now true c.put_spelled.new.out (g.T.Tables.held c.put_spelled.new.tables) c.args.toll.now c.put_spelled.new.toll c.options-options.ensures.options (sym c.requires.can) refl c.in_ok-put_spelled.ensures.bits c.in_ok-put_spelled.ensures.tables c.in_ok-put_spelled.ensures.toll }
