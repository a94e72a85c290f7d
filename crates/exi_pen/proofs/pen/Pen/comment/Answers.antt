use Rattle.std.proofs.lemmas.Result.{err_from_is_err_and}
use Rattle.exi_pen.proofs.EventKinds.{comment_ends, comment_stop}
use Rattle.exi_pen.proofs.pen.Pen.comment.Goals as goal

pub returns-in_err-put_literal : goal.returns-in_err-put_literal
returns-in_err-put_literal g c =
    let p = err_from_is_err_and c.from_residual-in_err-put_literal.result c.from_residual-in_err-put_literal.ensures.1 in
    record {
      writes = rw (p.1, p.2) (comment_stop c.in_err-put_literal.field-0.0 c.args.self.now c.begin_kind.new.self c.put_literal.new.self c.toll-toll.result c.begin_kind.new.toll c.put_literal.new.toll c.in_ok-rule.rule c.args.text.now c.requires.ready c.toll-toll.ensures c.in_ok-rule.ensures.meter c.in_ok-rule.ensures.begins c.in_err-put_literal.ensures.put);
    }

pub returns : goal.returns
returns g c = record {
  writes = comment_ends c.go_on.result c.args.self.now c.begin_kind.new.self c.put_literal.new.self c.go_on.new.self c.toll-toll.result c.begin_kind.new.toll c.put_literal.new.toll c.in_ok-rule.rule c.args.text.now c.requires.ready c.toll-toll.ensures c.in_ok-rule.ensures.begins c.in_ok-put_literal.ensures.put c.go_on.ensures;
}
