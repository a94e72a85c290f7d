use Rattle.std.proofs.Common.{◌<◌, arith, length, refl, subst}
use Rattle.exi_evtext.specs.Left.{LinesLeft}
use Rattle.exi_evtext.proofs.LineWise.{formless_left, line_left, line_shorter, none_left, open_left}
use Rattle.exi_evtext.proofs.lines.EventLines.any_in.Goals as goal

pub returns-then-is_empty-clause-next : goal.returns-then-is_empty-clause-next
returns-then-is_empty-clause-next c = (none_left c.args.self.now c.self.inside.left.now c.self.inside.line c.self.view_is c.if-is_empty.ensures, refl)

pub returns-in_default-clause-next : goal.returns-in_default-clause-next
returns-in_default-clause-next c =
    (open_left c.args.self.now c.self.inside.left.now c.self.inside.line c.split_line.result.1 c.self.view_is c.if-is_empty.ensures c.split_line.ensures.behind c.in_default.is, refl)

pub invariant_of-self : goal.invariant_of-self
invariant_of-self c = omega (arith, c.self.invariant, line_shorter c.self.inside.left.now c.split_line.result.1 c.in-Some.behind c.split_line.ensures.behind c.in-Some.is)

pub returns-in-Ok-clause-next : goal.returns-in-Ok-clause-next
returns-in-Ok-clause-next c =
    line_left c.args.self.now c.self.inside.left.now c.split_line.result.0.now c.self.inside.line _ c.split_line.result.1 c.in-Some.behind c.event_into.new.room c.self.view_is c.split_line.ensures.before c.split_line.ensures.behind c.in-Some.is c.in-Ok.ensures (omega arith)

pub returns-in-Ok-clause-shorter : goal.returns-in-Ok-clause-shorter
returns-in-Ok-clause-shorter c =
    λ _. subst (λ (l : LinesLeft). length c.in-Some.behind.now < length l.bytes) c.self.view_is (line_shorter c.self.inside.left.now c.split_line.result.1 c.in-Some.behind c.split_line.ensures.behind c.in-Some.is)

pub returns-in-Err-Form-clause-next : goal.returns-in-Err-Form-clause-next
returns-in-Err-Form-clause-next c =
    (formless_left c.args.self.now c.self.inside.left.now c.split_line.result.0.now c.self.inside.line c.split_line.result.1 c.in-Some.behind c.in-Err-Form.field-0 c.self.view_is c.split_line.ensures.before c.split_line.ensures.behind c.in-Some.is c.in-Err-Form.field-0-is c.in-Err-Form.ensures, c.self.view_is)
