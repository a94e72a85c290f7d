use Rattle.exi_names.specs.Shown.{named}
use Rattle.exi_pen.proofs.EventNames.{kept_element}
use Rattle.exi_pen.proofs.pen.Pen.element.Goals as goal

pub returns : goal.returns
returns g c = record { writes = kept_element c.element_apart.result c.args.self.now c.element_apart.new.self (named c.kept-name.result) _ c.kept-name.ensures c.element_apart.ensures.writes }
