use Rattle.std.proofs.lemmas.Result.{err_from_is_err_and}
use Rattle.exi_pen.proofs.EventKinds.{instruction_ends, instruction_stop, instruction_stops}
use Rattle.exi_pen.proofs.pen.Pen.instruction.Goals as goal

pub returns-in_err-put_literal : goal.returns-in_err-put_literal
returns-in_err-put_literal g c =
    let p = err_from_is_err_and c.from_residual-in_err-put_literal.result c.from_residual-in_err-put_literal.ensures.1 in
    record {
      writes = rw (p.1, p.2) (instruction_stop c.in_err-put_literal.field-0.0 c.args.self.now c.begin_kind.new.self c.put_literal.new.self c.toll-toll.result c.begin_kind.new.toll c.put_literal.new.toll c.in_ok-rule.rule c.args.target.now c.args.text.now c.requires.ready c.toll-toll.ensures c.in_ok-rule.ensures.meter c.in_ok-rule.ensures.begins c.in_err-put_literal.ensures.put);
    }

pub returns-in_err-put_literal-2 : goal.returns-in_err-put_literal-2
returns-in_err-put_literal-2 g c =
    let p = err_from_is_err_and c.from_residual-in_err-put_literal-2.result c.from_residual-in_err-put_literal-2.ensures.1 in
    record {
      writes = rw (p.1, p.2) (instruction_stops c.in_err-put_literal-2.field-0.0 c.args.self.now c.begin_kind.new.self c.put_literal.new.self c.put_literal-2.new.self c.toll-toll.result c.begin_kind.new.toll c.put_literal.new.toll c.put_literal-2.new.toll c.in_ok-rule.rule c.args.target.now c.args.text.now c.requires.ready c.toll-toll.ensures c.in_ok-rule.ensures.meter c.in_ok-rule.ensures.begins c.in_ok-put_literal.ensures.put c.in_err-put_literal-2.ensures.put);
    }

pub returns : goal.returns
returns g c = record {
  writes = instruction_ends c.go_on.result c.args.self.now c.begin_kind.new.self c.put_literal.new.self c.put_literal-2.new.self c.go_on.new.self c.toll-toll.result c.begin_kind.new.toll c.put_literal.new.toll c.put_literal-2.new.toll c.in_ok-rule.rule c.args.target.now c.args.text.now c.requires.ready c.toll-toll.ensures c.in_ok-rule.ensures.begins c.in_ok-put_literal.ensures.put c.in_ok-put_literal-2.ensures.put c.go_on.ensures;
}
