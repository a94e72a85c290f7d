use Rattle.std.proofs.Common.{sym, ◌∙◌}
use Rattle.std.proofs.lemmas.Result.{err_from_is_err_and}
use Rattle.exi_names.specs.Events.{happens}
use Rattle.exi_pen.proofs.Stepped.{fragment_err, fragment_ok, plain_err, plain_ok}
use Rattle.exi_pen.proofs.pen.Pen.step.Goals as goal

pub returns-in_err-self_contained-clause-steps : goal.returns-in_err-self_contained-clause-steps
returns-in_err-self_contained-clause-steps g c =
    let p = err_from_is_err_and c.from_residual.result c.from_residual.ensures.1 in
    rw (p.1, p.2) (fragment_err c.in_err-self_contained.field-0.0 c.args.self.now c.self_contained.new.self (happens c.args.event.now) c.requires.going (sym c.begins_fragment.ensures ∙ c.if-begins_fragment.true) c.in_err-self_contained.ensures.writes)

pub returns-then-begins_fragment-clause-steps : goal.returns-then-begins_fragment-clause-steps
returns-then-begins_fragment-clause-steps g c = fragment_ok c.in_ok-self_contained.field-0 c.args.self.now c.self_contained.new.self (happens c.args.event.now) c.requires.going (sym c.begins_fragment.ensures ∙ c.if-begins_fragment.true) c.in_ok-self_contained.ensures.writes

pub returns-in_err-plain-clause-steps : goal.returns-in_err-plain-clause-steps
returns-in_err-plain-clause-steps g c =
    let p = err_from_is_err_and c.from_residual-in_err-plain.result c.from_residual-in_err-plain.ensures.1 in
    rw (p.1, p.2) (plain_err c.in_err-plain.field-0.0 c.args.self.now c.plain.new.self (happens c.args.event.now) c.requires.going (sym c.begins_fragment.ensures ∙ c.if-begins_fragment.false) c.in_err-plain.ensures.writes)

pub returns-clause-steps : goal.returns-clause-steps
returns-clause-steps g c = plain_ok c.in_ok-plain.field-0 c.args.self.now c.plain.new.self (happens c.args.event.now) c.requires.going (sym c.begins_fragment.ensures ∙ c.if-begins_fragment.false) c.in_ok-plain.ensures.writes
