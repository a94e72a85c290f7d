use Rattle.std.proofs.Common.{true, ap, ◌∙◌}
use Rattle.std.specs.Prelude.{Ok, Err}
use Rattle.std.proofs.lemmas.Result.{err_from_is_err_and}
use Rattle.exi_names.specs.Shown.{named}
use Rattle.exi_processing.specs.Handing.{rule_in}
use Rattle.exi_processing.specs.Rules.{known}
use Rattle.exi_toll.specs.Charges.{charge, charge_event, charge_level}
use Rattle.exi_typed.specs.WrittenLaws.{name_units}
use Rattle.exi_pen.proofs.AtOnce.{ends_err, grow_paid}
use Rattle.exi_pen.proofs.NamesAtOnce.{element_way, element_writes, opened_paid}
use Rattle.exi_pen.specs.Pages.{opened_page, paid_page, way_page}
use Rattle.exi_pen.proofs.pen.Pen.element_by.Goals as goal

pub pay_and_code-requires : goal.pay_and_code-requires
pay_and_code-requires g c = record { way = element_way c.args.self.now c.args.choice c.args.id c.requires.special c.requires.on }

pub open_here-requires : goal.open_here-requires
open_here-requires g c = record { room = grow_paid c.args.self.now c.pay_and_code.new.self c.pay_name.new.toll c.args.choice c.requires.ready c.in_ok-pay_and_code.ensures.0 c.in_ok-pay_and_code.ensures.2 }

pub returns-in_err-pay_and_code : goal.returns-in_err-pay_and_code
returns-in_err-pay_and_code g c =
    let p = err_from_is_err_and c.from_residual.result c.from_residual.ensures.1 in
    let paid = c.pay_name.ensures ∙ ap (charge (name_units (named c.args.name))) (c.enter.ensures ∙ ap (charge_level true) (c.event.ensures ∙ ap (charge_event true) c.toll-toll.ensures)) in
    let mid = way_page c.args.self.now c.args.choice.way in
    record {
      writes = rw (p.1, p.2) (element_writes c.chosen_suits.ensures.law (Err c.in_err-pay_and_code.field-0.0) c.args.self.now c.pay_and_code.new.self c.pay_name.new.toll c.args.choice c.args.id (named c.args.name) c.requires.ready c.requires.special c.requires.inside c.requires.on c.requires.tells c.requires.whole paid
          (ends_err c.in_err-pay_and_code.field-0.0 c.pay_and_code.new.self c.pay_name.new.toll (paid_page mid) (opened_page (known c.args.id) (rule_in c.args.choice.rule).to (rule_in c.args.choice.rule).inner (record { id = c.args.id; name = named c.args.name }) mid) c.in_err-pay_and_code.ensures));
    }

pub returns : goal.returns
returns g c =
    let paid = c.pay_name.ensures ∙ ap (charge (name_units (named c.args.name))) (c.enter.ensures ∙ ap (charge_level true) (c.event.ensures ∙ ap (charge_event true) c.toll-toll.ensures)) in
    record {
      writes = element_writes c.chosen_suits.ensures.law (Ok c.in_ok-open_here.field-0) c.args.self.now c.open_here.new.self c.pay_name.new.toll c.args.choice c.args.id (named c.args.name) c.requires.ready c.requires.special c.requires.inside c.requires.on c.requires.tells c.requires.whole paid
          (opened_paid c.in_ok-open_here.field-0 (way_page c.args.self.now c.args.choice.way) c.pay_and_code.new.self c.open_here.new.self c.pay_name.new.toll (rule_in c.args.choice.rule) c.args.id (named c.args.name) c.in_ok-pay_and_code.ensures c.in_ok-open_here.ensures c.requires.inside);
    }
