use Rattle.std.proofs.Common.{ap, sym, subst, ◌∙◌}
use Rattle.exi_choice.specs.Choices.{IsWay}
use Rattle.exi_pen.specs.Pages.{Page, paid_page, way_page}
use Rattle.exi_processing.specs.Configurations.{rules_of}
use Rattle.exi_pen.proofs.pen.Pen.pay_and_code.Goals as goal

pub put_code-requires : goal.put_code-requires
put_code-requires g c = record { way = subst (λ (p : Page). IsWay p.setting p.config.learned (rules_of p.setting p.config) c.args.way) (sym c.self.view_is) c.requires.way }

pub returns : goal.returns
returns g c = (c.settle.new.meter, c.in_ok-settle.ensures, c.in_ok-put_code.ensures.ok ∙ ap (λ (p : Page). paid_page (way_page p c.args.way) c.settle.new.meter) c.self.view_is)
