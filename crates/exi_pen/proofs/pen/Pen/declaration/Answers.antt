use Rattle.std.proofs.lemmas.Result.{err_from_is_err_and}
use Rattle.exi_pen.proofs.EventKinds.{declaration_ends, declaration_stop}
use Rattle.exi_pen.proofs.pen.Pen.declaration.Goals as goal

pub returns-in_err-put_declaration : goal.returns-in_err-put_declaration
returns-in_err-put_declaration g c =
    let p = err_from_is_err_and c.from_residual-in_err-put_declaration.result c.from_residual-in_err-put_declaration.ensures.1 in
    record {
      writes = rw (p.1, p.2) (declaration_stop c.in_err-put_declaration.field-0.0 c.args.self.now c.begin_kind.new.self c.put_declaration.new.self c.toll-toll.result c.begin_kind.new.toll c.put_declaration.new.toll c.in_ok-rule.rule (record { uri = c.args.uri.now; prefix = c.args.prefix.now; element = c.args.element }) c.requires.ready c.toll-toll.ensures c.in_ok-rule.ensures.meter c.in_ok-rule.ensures.begins c.in_err-put_declaration.ensures.put);
    }

pub returns : goal.returns
returns g c = record {
  writes = declaration_ends c.go_on.result c.args.self.now c.begin_kind.new.self c.put_declaration.new.self c.go_on.new.self c.toll-toll.result c.begin_kind.new.toll c.put_declaration.new.toll c.in_ok-rule.rule (record { uri = c.args.uri.now; prefix = c.args.prefix.now; element = c.args.element }) c.requires.ready c.toll-toll.ensures c.in_ok-rule.ensures.begins c.in_ok-put_declaration.ensures.put c.go_on.ensures;
}
