use Rattle.exi_choice.specs.Fitting.{declaring}
use Rattle.exi_names.specs.Seen.{seen}
use Rattle.exi_processing.specs.Handing.{rule_in, telling_of}
use Rattle.exi_pen.specs.Told.{told_in, valuing_on}
use Rattle.exi_pen.proofs.Effects.{attribute_put}
use Rattle.exi_pen.proofs.pen.Pen.attribute_on.Goals as goal

pub returns : goal.returns
returns g c = (c.settle.new.meter, c.in_ok-settle.ensures, attribute_put c.self.view_is (telling_of c.telling-told.result) (told_in (rule_in c.args.rule).on) (valuing_on (rule_in c.args.rule).on) c.args.rule.to c.args.id (declaring c.args.declared) (seen c.args.value.now) c.settle.new.meter c.learn_name.new.overlay c.follow.new.self c.telling-told.ensures c.requires.declared c.in_ok-learn_name.ensures.ok c.follow.ensures)
