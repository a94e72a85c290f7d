use Rattle.std.proofs.Common.{ℕ, true, [], ◌∷◌, length, ap, ◌∙◌}
use Rattle.std.specs.Prelude.{Ok, Err}
use Rattle.std.proofs.lemmas.Result.{err_from_is_err_and}
use Rattle.exi_names.specs.Seen as shape
use Rattle.exi_names.specs.Shown.{named}
use Rattle.exi_processing.specs.Handing.{rule_in}
use Rattle.exi_toll.specs.Charges.{charge, charge_event}
use Rattle.exi_typed.specs.WrittenLaws.{name_units}
use Rattle.exi_pen.proofs.AtOnce.{ends_err, few_paid}
use Rattle.exi_pen.proofs.NamesAtOnce.{attribute_way, attribute_writes, attributed_paid, known_paid}
use Rattle.exi_pen.specs.Pages.{attribute_page, paid_page, text_page, way_page}
use Rattle.exi_pen.specs.Told.{told_in, valuing_on}
use Rattle.exi_pen.proofs.pen.Pen.attribute_by.Goals as goal

pub pay_and_code-requires : goal.pay_and_code-requires
pay_and_code-requires g c = record { way = attribute_way c.args.self.now c.args.choice c.args.id (named c.args.name) c.args.text.now c.requires.special c.requires.on c.requires.string c.requires.can }

pub put_text-requires-clause-name : goal.put_text-requires-clause-name
put_text-requires-clause-name g c = known_paid c.args.self.now c.pay_and_code.new.self c.args.choice c.args.id (named c.args.name) c.requires.tells c.in_ok-pay_and_code.ensures.0 c.in_ok-pay_and_code.ensures.2

pub put_text-requires-clause-few : goal.put_text-requires-clause-few
put_text-requires-clause-few g c = few_paid c.args.self.now c.pay_and_code.new.self c.args.choice c.requires.ready c.in_ok-pay_and_code.ensures.0 c.in_ok-pay_and_code.ensures.2

pub returns-in_err-pay_and_code : goal.returns-in_err-pay_and_code
returns-in_err-pay_and_code g c =
    let p = err_from_is_err_and c.from_residual.result c.from_residual.ensures.1 in
    let paid = c.text.ensures ∙ ap (λ (n : ℕ). charge (n ∷ []) c.pay_name.new.toll) c.count.ensures ∙ ap (charge (length c.args.text.now ∷ [])) (c.pay_name.ensures ∙ ap (charge (name_units (named c.args.name))) (c.event.ensures ∙ ap (charge_event true) c.toll-toll.ensures)) in
    let mid = way_page c.args.self.now c.args.choice.way in
    let rule = rule_in c.args.choice.rule in
    record {
      writes = rw (p.1, p.2) (attribute_writes c.chosen_suits.ensures.law (Err c.in_err-pay_and_code.field-0.0) c.args.self.now c.pay_and_code.new.self c.text.new.self c.args.choice c.args.id (named c.args.name) c.args.text.now c.requires.ready c.requires.special c.requires.inside c.requires.on c.requires.tells c.requires.whole c.requires.string c.requires.can paid
          (ends_err c.in_err-pay_and_code.field-0.0 c.pay_and_code.new.self c.text.new.self (paid_page mid) (attribute_page (told_in rule.on) (valuing_on rule.on) rule.to c.args.id (shape.text c.args.text.now) (text_page c.args.id c.args.text.now mid)) c.in_err-pay_and_code.ensures));
    }

pub returns : goal.returns
returns g c =
    let paid = c.text.ensures ∙ ap (λ (n : ℕ). charge (n ∷ []) c.pay_name.new.toll) c.count.ensures ∙ ap (charge (length c.args.text.now ∷ [])) (c.pay_name.ensures ∙ ap (charge (name_units (named c.args.name))) (c.event.ensures ∙ ap (charge_event true) c.toll-toll.ensures)) in
    record {
      writes = attribute_writes c.chosen_suits.ensures.law (Ok c.in_ok-put_text.field-0) c.args.self.now c.go_here.new.self c.text.new.self c.args.choice c.args.id (named c.args.name) c.args.text.now c.requires.ready c.requires.special c.requires.inside c.requires.on c.requires.tells c.requires.whole c.requires.string c.requires.can paid
          (attributed_paid c.in_ok-put_text.field-0 (way_page c.args.self.now c.args.choice.way) c.pay_and_code.new.self c.put_text.new.self c.go_here.new.self c.text.new.self (rule_in c.args.choice.rule) c.args.id c.args.text.now c.in_ok-pay_and_code.ensures c.in_ok-put_text.ensures c.go_here.ensures c.requires.string c.requires.on);
    }
