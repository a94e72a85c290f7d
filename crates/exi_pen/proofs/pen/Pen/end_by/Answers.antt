use Rattle.std.proofs.Common.{true, sym, ap, ◌∙◌}
use Rattle.std.specs.Prelude.{Ok, Err}
use Rattle.std.proofs.lemmas.Result.{err_from_is_err_and}
use Rattle.exi_toll.specs.Charges.{charge_event}
use Rattle.exi_pen.proofs.AtOnce.{closed_paid, end_way, end_writes, ends_err, grow_paid, level_paid}
use Rattle.exi_pen.specs.Pages.{closed_page, paid_page, way_page}
use Rattle.exi_pen.proofs.pen.Pen.end_by.Goals as goal

pub pay_and_code-requires : goal.pay_and_code-requires
pay_and_code-requires g c = record { way = end_way c.args.self.now c.args.choice c.requires.special c.requires.on }

pub close_here-requires-clause-room : goal.close_here-requires-clause-room
close_here-requires-clause-room g c = grow_paid c.args.self.now c.pay_and_code.new.self c.event.new.self c.args.choice c.requires.ready c.in_ok-pay_and_code.ensures.0 c.in_ok-pay_and_code.ensures.2

pub close_here-requires-clause-level : goal.close_here-requires-clause-level
close_here-requires-clause-level g c = level_paid c.chosen_suits.ensures.law c.args.self.now c.pay_and_code.new.self c.args.choice c.requires.ready c.requires.special c.requires.inside c.requires.on c.in_ok-pay_and_code.ensures.0
    (sym (c.event.ensures ∙ ap (charge_event true) c.toll-toll.ensures) ∙ c.in_ok-pay_and_code.ensures.1) c.in_ok-pay_and_code.ensures.2

pub returns-in_err-pay_and_code : goal.returns-in_err-pay_and_code
returns-in_err-pay_and_code g c =
    let p = err_from_is_err_and c.from_residual.result c.from_residual.ensures.1 in
    record {
      writes = rw (p.1, p.2) (end_writes c.chosen_suits.ensures.law (Err c.in_err-pay_and_code.field-0.0) c.args.self.now c.pay_and_code.new.self c.event.new.self c.args.choice c.requires.ready c.requires.special c.requires.inside c.requires.on
          (c.event.ensures ∙ ap (charge_event true) c.toll-toll.ensures)
          (ends_err c.in_err-pay_and_code.field-0.0 c.pay_and_code.new.self c.event.new.self (paid_page (way_page c.args.self.now c.args.choice.way)) (closed_page (way_page c.args.self.now c.args.choice.way)) c.in_err-pay_and_code.ensures));
    }

pub returns : goal.returns
returns g c = record {
  writes = end_writes c.chosen_suits.ensures.law (Ok c.in_ok-close_here.field-0) c.args.self.now c.close_here.new.self c.event.new.self c.args.choice c.requires.ready c.requires.special c.requires.inside c.requires.on
      (c.event.ensures ∙ ap (charge_event true) c.toll-toll.ensures)
      (closed_paid c.in_ok-close_here.field-0 (way_page c.args.self.now c.args.choice.way) c.pay_and_code.new.self c.close_here.new.self c.event.new.self c.in_ok-pay_and_code.ensures c.in_ok-close_here.ensures);
}
