use Rattle.std.proofs.Common.{◌∙◌}
use Rattle.std.proofs.lemmas.Result.{err_from_is_err_and}
use Rattle.exi_writing.specs.Contents.{text}
use Rattle.exi_pen.proofs.EventKinds.{doctype_ends, doctype_stop, first_fails, fourth_fails, second_fails, text_meter, third_fails}
use Rattle.exi_pen.proofs.pen.Pen.document_type.Goals as goal

pub returns-in_err-put_literal : goal.returns-in_err-put_literal
returns-in_err-put_literal g c =
    let p = err_from_is_err_and c.from_residual-in_err-put_literal.result c.from_residual-in_err-put_literal.ensures.1 in
    record {
      writes = rw (p.1, p.2) (doctype_stop c.in_err-put_literal.field-0.0 c.args.self.now c.begin_kind.new.self c.begin_kind.new.self c.put_literal.new.self c.toll-toll.result c.begin_kind.new.toll c.begin_kind.new.toll c.put_literal.new.toll c.in_ok-rule.rule c.args.name.now c.args.public.now c.args.system.now c.args.text.now (text (c.begin_kind.new.self).setting c.args.name.now (c.begin_kind.new.self).config.tables) c.requires.ready c.toll-toll.ensures c.in_ok-rule.ensures.begins (c.in_ok-rule.ensures.meter) (first_fails c.begin_kind.new.self c.args.name.now c.args.public.now c.args.system.now c.args.text.now) c.in_err-put_literal.ensures.put);
    }

pub returns-in_err-put_literal-2 : goal.returns-in_err-put_literal-2
returns-in_err-put_literal-2 g c =
    let p = err_from_is_err_and c.from_residual-in_err-put_literal-2.result c.from_residual-in_err-put_literal-2.ensures.1 in
    record {
      writes = rw (p.1, p.2) (doctype_stop c.in_err-put_literal-2.field-0.0 c.args.self.now c.begin_kind.new.self c.put_literal.new.self c.put_literal-2.new.self c.toll-toll.result c.begin_kind.new.toll c.put_literal.new.toll c.put_literal-2.new.toll c.in_ok-rule.rule c.args.name.now c.args.public.now c.args.system.now c.args.text.now (text (c.put_literal.new.self).setting c.args.public.now (c.put_literal.new.self).config.tables) c.requires.ready c.toll-toll.ensures c.in_ok-rule.ensures.begins (text_meter c.begin_kind.new.self c.put_literal.new.self c.begin_kind.new.toll c.put_literal.new.toll c.args.name.now c.in_ok-put_literal.ensures.put ∙ c.in_ok-rule.ensures.meter) (second_fails c.begin_kind.new.self c.put_literal.new.self c.begin_kind.new.toll c.put_literal.new.toll c.args.name.now c.args.public.now c.args.system.now c.args.text.now c.in_ok-put_literal.ensures.put) c.in_err-put_literal-2.ensures.put);
    }

pub returns-in_err-put_literal-3 : goal.returns-in_err-put_literal-3
returns-in_err-put_literal-3 g c =
    let p = err_from_is_err_and c.from_residual-in_err-put_literal-3.result c.from_residual-in_err-put_literal-3.ensures.1 in
    record {
      writes = rw (p.1, p.2) (doctype_stop c.in_err-put_literal-3.field-0.0 c.args.self.now c.begin_kind.new.self c.put_literal-2.new.self c.put_literal-3.new.self c.toll-toll.result c.begin_kind.new.toll c.put_literal-2.new.toll c.put_literal-3.new.toll c.in_ok-rule.rule c.args.name.now c.args.public.now c.args.system.now c.args.text.now (text (c.put_literal-2.new.self).setting c.args.system.now (c.put_literal-2.new.self).config.tables) c.requires.ready c.toll-toll.ensures c.in_ok-rule.ensures.begins (text_meter c.put_literal.new.self c.put_literal-2.new.self c.put_literal.new.toll c.put_literal-2.new.toll c.args.public.now c.in_ok-put_literal-2.ensures.put ∙ (text_meter c.begin_kind.new.self c.put_literal.new.self c.begin_kind.new.toll c.put_literal.new.toll c.args.name.now c.in_ok-put_literal.ensures.put ∙ c.in_ok-rule.ensures.meter)) (third_fails c.begin_kind.new.self c.put_literal.new.self c.put_literal-2.new.self c.begin_kind.new.toll c.put_literal.new.toll c.put_literal-2.new.toll c.args.name.now c.args.public.now c.args.system.now c.args.text.now c.in_ok-put_literal.ensures.put c.in_ok-put_literal-2.ensures.put) c.in_err-put_literal-3.ensures.put);
    }

pub returns-in_err-put_literal-4 : goal.returns-in_err-put_literal-4
returns-in_err-put_literal-4 g c =
    let p = err_from_is_err_and c.from_residual-in_err-put_literal-4.result c.from_residual-in_err-put_literal-4.ensures.1 in
    record {
      writes = rw (p.1, p.2) (doctype_stop c.in_err-put_literal-4.field-0.0 c.args.self.now c.begin_kind.new.self c.put_literal-3.new.self c.put_literal-4.new.self c.toll-toll.result c.begin_kind.new.toll c.put_literal-3.new.toll c.put_literal-4.new.toll c.in_ok-rule.rule c.args.name.now c.args.public.now c.args.system.now c.args.text.now (text (c.put_literal-3.new.self).setting c.args.text.now (c.put_literal-3.new.self).config.tables) c.requires.ready c.toll-toll.ensures c.in_ok-rule.ensures.begins (text_meter c.put_literal-2.new.self c.put_literal-3.new.self c.put_literal-2.new.toll c.put_literal-3.new.toll c.args.system.now c.in_ok-put_literal-3.ensures.put ∙ (text_meter c.put_literal.new.self c.put_literal-2.new.self c.put_literal.new.toll c.put_literal-2.new.toll c.args.public.now c.in_ok-put_literal-2.ensures.put ∙ (text_meter c.begin_kind.new.self c.put_literal.new.self c.begin_kind.new.toll c.put_literal.new.toll c.args.name.now c.in_ok-put_literal.ensures.put ∙ c.in_ok-rule.ensures.meter))) (fourth_fails c.begin_kind.new.self c.put_literal.new.self c.put_literal-2.new.self c.put_literal-3.new.self c.begin_kind.new.toll c.put_literal.new.toll c.put_literal-2.new.toll c.put_literal-3.new.toll c.args.name.now c.args.public.now c.args.system.now c.args.text.now c.in_ok-put_literal.ensures.put c.in_ok-put_literal-2.ensures.put c.in_ok-put_literal-3.ensures.put) c.in_err-put_literal-4.ensures.put);
    }

pub returns : goal.returns
returns g c = record {
  writes = doctype_ends c.go_on.result c.args.self.now c.begin_kind.new.self c.put_literal.new.self c.put_literal-2.new.self c.put_literal-3.new.self c.put_literal-4.new.self c.go_on.new.self c.toll-toll.result c.begin_kind.new.toll c.put_literal.new.toll c.put_literal-2.new.toll c.put_literal-3.new.toll c.put_literal-4.new.toll c.in_ok-rule.rule c.args.name.now c.args.public.now c.args.system.now c.args.text.now c.requires.ready c.toll-toll.ensures c.in_ok-rule.ensures.begins c.in_ok-put_literal.ensures.put c.in_ok-put_literal-2.ensures.put c.in_ok-put_literal-3.ensures.put c.in_ok-put_literal-4.ensures.put c.go_on.ensures;
}
