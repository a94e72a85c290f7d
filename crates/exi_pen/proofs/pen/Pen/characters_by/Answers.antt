use Rattle.std.proofs.Common.{ℕ, ◌∷◌, [], true, length, refl, ap, ◌∙◌}
use Rattle.std.specs.Prelude.{Ok, Err}
use Rattle.std.proofs.lemmas.Result.{err_from_is_err_and}
use Rattle.exi_builtin.specs.declared.learnable.Learned.TheVariants as used
use Rattle.exi_processing.specs.Changes.{innermost}
use Rattle.exi_processing.specs.Rules.{spelled}
use Rattle.exi_toll.specs.Charges.{charge, charge_event}
use Rattle.exi_pen.proofs.AtOnce.{characters_way, characters_write, ends_err, few_paid, grow_paid, grow_text, inside_paid, texted_paid}
use Rattle.exi_pen.specs.Pages.{Page, learned_page, paid_page, text_page, way_page}
use Rattle.exi_pen.proofs.pen.Pen.characters_by.Goals as goal

pub pay_and_code-requires : goal.pay_and_code-requires
pay_and_code-requires g c = record { way = characters_way c.args.self.now c.args.choice c.args.text.now c.requires.special c.requires.on c.requires.can }

pub put_text-requires-clause-name : goal.put_text-requires-clause-name
put_text-requires-clause-name g c = inside_paid c.chosen_suits.ensures.law c.args.self.now c.pay_and_code.new.self c.args.choice c.args.text.now c.inside-name.result c.requires.ready c.requires.special c.requires.inside c.requires.on c.requires.can c.in_ok-pay_and_code.ensures.0 c.in_ok-pay_and_code.ensures.2 c.inside-name.ensures

pub put_text-requires-clause-few : goal.put_text-requires-clause-few
put_text-requires-clause-few g c = few_paid c.args.self.now c.pay_and_code.new.self c.args.choice c.requires.ready c.in_ok-pay_and_code.ensures.0 c.in_ok-pay_and_code.ensures.2

pub learn_here-requires : goal.learn_here-requires
learn_here-requires g c = record {
  room = grow_text c.pay_and_code.new.self c.put_text.new.self c.inside-name.result c.args.text.now c.in_ok-put_text.ensures
      (grow_paid c.args.self.now c.pay_and_code.new.self c.text.new.self c.args.choice c.requires.ready c.in_ok-pay_and_code.ensures.0 c.in_ok-pay_and_code.ensures.2);
}

pub returns-in_err-pay_and_code : goal.returns-in_err-pay_and_code
returns-in_err-pay_and_code g c =
    let p = err_from_is_err_and c.from_residual.result c.from_residual.ensures.1 in
    let mid = way_page c.args.self.now c.args.choice.way in
    let name = innermost c.args.self.now.config.elements in
    record {
      writes = rw (p.1, p.2) (characters_write c.chosen_suits.ensures.law (Err c.in_err-pay_and_code.field-0.0) c.args.self.now c.pay_and_code.new.self c.text.new.self c.args.choice c.args.text.now name c.requires.ready c.requires.special c.requires.inside c.requires.on c.requires.can refl
          (c.text.ensures ∙ ap (λ (n : ℕ). charge (n ∷ []) c.event.new.self) c.count.ensures ∙ ap (charge (length c.args.text.now ∷ [])) (c.event.ensures ∙ ap (charge_event true) c.toll-toll.ensures))
          (ends_err c.in_err-pay_and_code.field-0.0 c.pay_and_code.new.self c.text.new.self (paid_page mid) (learned_page spelled used.Ch c.args.choice.rule.to (text_page name c.args.text.now mid)) c.in_err-pay_and_code.ensures));
    }

pub returns : goal.returns
returns g c = record {
  writes = characters_write c.chosen_suits.ensures.law (Ok c.in_ok-learn_here.field-0) c.args.self.now c.learn_here.new.self c.text.new.self c.args.choice c.args.text.now c.inside-name.result c.requires.ready c.requires.special c.requires.inside c.requires.on c.requires.can
      (c.inside-name.ensures ∙ ap (λ (p : Page). innermost p.config.elements) c.in_ok-pay_and_code.ensures.2)
      (c.text.ensures ∙ ap (λ (n : ℕ). charge (n ∷ []) c.event.new.self) c.count.ensures ∙ ap (charge (length c.args.text.now ∷ [])) (c.event.ensures ∙ ap (charge_event true) c.toll-toll.ensures))
      (texted_paid c.in_ok-learn_here.field-0 (way_page c.args.self.now c.args.choice.way) c.pay_and_code.new.self c.put_text.new.self c.learn_here.new.self c.text.new.self c.inside-name.result c.args.text.now c.args.choice.rule.to c.in_ok-pay_and_code.ensures c.in_ok-put_text.ensures c.in_ok-learn_here.ensures);
}
