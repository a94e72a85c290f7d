use Rattle.exi_names.specs.Seen.{seen}
use Rattle.exi_names.specs.Shown.{named}
use Rattle.exi_pen.proofs.EventValues.{kept_attribute, pruned_in}
use Rattle.exi_pen.proofs.pen.Pen.attribute.Goals as goal

pub returns : goal.returns
returns g c = record { writes = kept_attribute c.attribute_apart.result c.args.self.now c.attribute_apart.new.self (named c.kept-name.result) _ (pruned_in c.args.self.now (seen c.args.value.now)) c.kept-name.ensures c.attribute_apart.ensures.writes }
