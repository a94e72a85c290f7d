use Rattle.std.proofs.Common.{◌∙◌, ap, cond, Bool, Some, None, refl}
use Rattle.std.proofs.lemmas.Result.{err_from_is_err_and}
use Rattle.exi_bits.specs.declared.fault.Kind.TheVariants as kind
use Rattle.exi_names.specs.Events as event
use Rattle.exi_names.specs.Shown.{named}
use Rattle.exi_processing.specs.Handing.{telling_of}
use Rattle.exi_processing.specs.declared.rule.Content.TheVariants as content
use Rattle.exi_writing.specs.Contents.{told_name}
use Rattle.exi_choice.specs.Wanted.{of_kind}
use Rattle.exi_pen.proofs.EventNames.{element_ends, element_stop, element_told, element_wanted, few_begun, grow_begun, grow_put, other_element_is}
use Rattle.exi_pen.proofs.Wrote.{begin_stop}
use Rattle.exi_pen.proofs.pen.Pen.element_apart.Goals as goal

pub returns-then-is_other : goal.returns-then-is_other
returns-then-is_other g c = record {
  writes = (other_element_is c.chosen_suits.ensures.law c.args.self.now (named c.args.name) kind.ScRoot c.requires.ready (c.is_other.ensures ∙ ap (λ (b : Bool). cond b (Some kind.ScRoot) None) c.if-is_other.true), refl);
}

pub put_told-requires-clause-few : goal.put_told-requires-clause-few
put_told-requires-clause-few g c = few_begun (of_kind (content.Element c.args.place)) c.args.self.now c.begin_element.new.self c.toll-toll.result c.begin_element.new.toll c.in_ok-rule.rule c.requires.ready c.in_ok-rule.ensures.begins

pub put_told-requires-clause-told : goal.put_told-requires-clause-told
put_told-requires-clause-told g c = element_told c.args.self.now c.begin_element.new.self c.toll-toll.result c.begin_element.new.toll c.in_ok-rule.rule c.args.place c.telling-told.result (named c.args.name) c.in_ok-rule.ensures.begins c.requires.place c.telling-told.ensures

pub open_on-requires : goal.open_on-requires
open_on-requires g c = record {
  room = grow_put c.in_ok-id.id (told_name c.begin_element.new.self.setting (telling_of c.telling-told.result) (named c.args.name) c.begin_element.new.self.config.tables) c.begin_element.new.self c.put_told.new.self c.begin_element.new.toll c.put_told.new.toll
      (grow_begun (of_kind (content.Element c.args.place)) c.args.self.now c.begin_element.new.self c.toll-toll.result c.begin_element.new.toll c.in_ok-rule.rule c.requires.ready c.in_ok-rule.ensures.begins) c.in_ok-id.ensures.put;
}

pub returns-in_err-id : goal.returns-in_err-id
returns-in_err-id g c =
    let p = err_from_is_err_and c.from_residual-in_err-id.result c.from_residual-in_err-id.ensures.1 in
    record {
      writes = rw (p.1, p.2) ((element_stop c.in_err-id.field-0.0 c.args.self.now c.begin_element.new.self c.put_told.new.self c.toll-toll.result c.begin_element.new.toll c.put_told.new.toll c.in_ok-rule.rule c.args.place c.telling-told.result (named c.args.name) c.requires.ready c.toll-toll.ensures c.in_ok-rule.ensures.begins c.requires.place c.telling-told.ensures c.in_err-id.ensures.put));
    }

pub returns : goal.returns
returns g c =
    let free = c.is_other.ensures ∙ ap (λ (b : Bool). cond b (Some kind.ScRoot) None) c.if-is_other.false in
    record {
      writes = (element_ends c.open_on.result c.args.self.now c.begin_element.new.self c.put_told.new.self c.open_on.new.self c.toll-toll.result c.begin_element.new.toll c.put_told.new.toll c.in_ok-rule.rule c.args.place c.telling-told.result (named c.args.name) c.in_ok-id.id c.requires.ready c.toll-toll.ensures c.in_ok-rule.ensures.begins c.requires.place c.telling-told.ensures c.in_ok-id.ensures.put c.in_ok-id.ensures.id free c.open_on.ensures);
    }

pub returns-in_err-rule : goal.returns-in_err-rule
returns-in_err-rule g c =
    let p = err_from_is_err_and c.from_residual.result c.from_residual.ensures.1 in
    record {
      writes = rw (p.1, p.2) ((begin_stop c.in_err-rule.field-0.0 (of_kind (content.Element c.args.place)) c.args.self.now c.begin_element.new.self (event.se (named c.args.name)) c.in_err-rule.ensures.begins (element_wanted c.args.self.now c.args.place (named c.args.name) c.requires.place) c.in_err-rule.ensures.meter));
    }
