use Rattle.std.proofs.Common.{◌∙◌, sym}
use Rattle.std.proofs.lemmas.Result.{err_from_is_err_and}
use Rattle.exi_names.specs.Events.{happens}
use Rattle.exi_pen.specs.Steps.{begins_fragment, left_of}
use Rattle.std.specs.Prelude.{Ok, Err}
use Rattle.exi_writer.proofs.Putting.{leaves_ready, left_kept, plain_written, put_ready, puts_ended, puts_may, puts_plain, puts_stopped, told_at_fragment, told_sc}
use Rattle.exi_writer.proofs.writer.Writer.put_left.Goals as goal

pub returns-then-has_ended-clause-put : goal.returns-then-has_ended-clause-put
returns-then-has_ended-clause-put g c =
    let e = left_of c.self.inside.pen.setting.options (happens c.args.event.now) in
    puts_ended c.self.inside.pen c.self.inside.waits c.args.self.now c.args.self.now _ e c.self.view_is c.requires.going (sym c.if-has_ended.ensures) (left_kept c.self.inside.pen c.self.inside.waits c.args.self.now (happens c.args.event.now) c.self.view_is c.requires.left)

pub step-requires-clause-ready : goal.step-requires-clause-ready
step-requires-clause-ready g c = put_ready c.self.inside.pen c.self.inside.waits c.args.self.now c.self.view_is c.requires.going c.requires.composed (sym c.if-has_ended.ensures)

pub returns-in_err-step-clause-put : goal.returns-in_err-step-clause-put
returns-in_err-step-clause-put g c =
    let p = err_from_is_err_and c.from_residual.result c.from_residual.ensures.1 in
    let e = left_of c.self.inside.pen.setting.options (happens c.args.event.now) in
    let left = left_kept c.self.inside.pen c.self.inside.waits c.args.self.now (happens c.args.event.now) c.self.view_is c.requires.left in
    rw (p.1, p.2) (puts_stopped c.in_err-step.field-0.0 (begins_fragment (happens c.args.event.now)) c.self.inside.pen c.step.new.self c.self.inside.waits c.args.self.now _ e c.self.view_is c.requires.going left c.in_err-step.ensures.steps)

pub returns-then-branch-clause-put : goal.returns-then-branch-clause-put
returns-then-branch-clause-put g c =
    let e = left_of c.self.inside.pen.setting.options (happens c.args.event.now) in
    let left = left_kept c.self.inside.pen c.self.inside.waits c.args.self.now (happens c.args.event.now) c.self.view_is c.requires.left in
    told_sc c.in_ok-step.field-0 c.self.inside.pen c.step.new.self c.self.inside.waits c.args.self.now _ (happens c.args.event.now) c.self.view_is c.requires.going left c.if-branch.true c.in_ok-step.ensures.told c.in_ok-step.ensures.steps

pub returns-then-branch-clause-composed : goal.returns-then-branch-clause-composed
returns-then-branch-clause-composed g c =
    let at = told_at_fragment c.written_is_read.ensures.one c.in_ok-step.field-0 c.self.inside.pen c.step.new.self c.self.inside.waits c.args.self.now (happens c.args.event.now) c.self.view_is c.requires.going c.requires.composed c.if-branch.true c.in_ok-step.ensures.told c.in_ok-step.ensures.steps in
    λ going. at.composed

pub returns-then-branch-clause-fragment : goal.returns-then-branch-clause-fragment
returns-then-branch-clause-fragment g c =
    let at = told_at_fragment c.written_is_read.ensures.one c.in_ok-step.field-0 c.self.inside.pen c.step.new.self c.self.inside.waits c.args.self.now (happens c.args.event.now) c.self.view_is c.requires.going c.requires.composed c.if-branch.true c.in_ok-step.ensures.told c.in_ok-step.ensures.steps in
    λ told. at

pub leave_fragment-requires : goal.leave_fragment-requires
leave_fragment-requires g c =
    let e = left_of c.self.inside.pen.setting.options (happens c.args.event.now) in
    let one = plain_written c.in_ok-step.field-0 (begins_fragment (happens c.args.event.now)) c.self.inside.pen c.step.new.self e c.if-branch.false c.in_ok-step.ensures.told c.in_ok-step.ensures.steps in
    record { closes = leaves_ready c.written_is_read.ensures.one c.self.inside.pen c.step.new.self c.self.inside.waits c.args.self.now e c.self.view_is c.requires.going c.requires.composed one }

pub returns-in_err-leave_fragment-clause-put : goal.returns-in_err-leave_fragment-clause-put
returns-in_err-leave_fragment-clause-put g c =
    let p = err_from_is_err_and c.from_residual-in_err-leave_fragment.result c.from_residual-in_err-leave_fragment.ensures.1 in
    let e = left_of c.self.inside.pen.setting.options (happens c.args.event.now) in
    let left = left_kept c.self.inside.pen c.self.inside.waits c.args.self.now (happens c.args.event.now) c.self.view_is c.requires.left in
    let one = plain_written c.in_ok-step.field-0 (begins_fragment (happens c.args.event.now)) c.self.inside.pen c.step.new.self e c.if-branch.false c.in_ok-step.ensures.told c.in_ok-step.ensures.steps in
    rw (p.1, p.2) (puts_plain (Err c.in_err-leave_fragment.field-0.0) c.self.inside.pen c.step.new.self c.leave_fragment.new.pen c.self.inside.waits c.args.self.now _ (happens c.args.event.now) c.self.view_is c.requires.going c.requires.composed left (sym c.if-branch.false ∙ c.in_ok-step.ensures.told) one c.in_err-leave_fragment.ensures)

pub returns-clause-put : goal.returns-clause-put
returns-clause-put g c =
    let e = left_of c.self.inside.pen.setting.options (happens c.args.event.now) in
    let left = left_kept c.self.inside.pen c.self.inside.waits c.args.self.now (happens c.args.event.now) c.self.view_is c.requires.left in
    let one = plain_written c.in_ok-step.field-0 (begins_fragment (happens c.args.event.now)) c.self.inside.pen c.step.new.self e c.if-branch.false c.in_ok-step.ensures.told c.in_ok-step.ensures.steps in
    puts_plain (Ok c.in_ok-leave_fragment.field-0) c.self.inside.pen c.step.new.self c.leave_fragment.new.pen c.self.inside.waits c.args.self.now _ (happens c.args.event.now) c.self.view_is c.requires.going c.requires.composed left (sym c.if-branch.false ∙ c.in_ok-step.ensures.told) one c.in_ok-leave_fragment.ensures

pub returns-clause-composed : goal.returns-clause-composed
returns-clause-composed g c =
    let e = left_of c.self.inside.pen.setting.options (happens c.args.event.now) in
    let one = plain_written c.in_ok-step.field-0 (begins_fragment (happens c.args.event.now)) c.self.inside.pen c.step.new.self e c.if-branch.false c.in_ok-step.ensures.told c.in_ok-step.ensures.steps in
    puts_may c.written_is_read.ensures.one c.self.inside.pen c.step.new.self c.leave_fragment.new.pen c.self.inside.waits c.args.self.now e c.self.view_is c.requires.going c.requires.composed one c.in_ok-leave_fragment.ensures
