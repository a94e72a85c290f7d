use Rattle.std.proofs.Common.{◌<◌, length, subst, arith}
use Rattle.exi_evtext.specs.Left.{LinesLeft}
use Rattle.exi_evtext.proofs.Straight.{less_left, line_fills, some_line}
use Rattle.exi_evtext.proofs.lines.EventLines.next_in.Goals as goal

pub overflow_add-self : goal.overflow_add-self
overflow_add-self c =
    let line = some_line c.in-Ok-Some.field-0 c.in-Ok-Some.behind c.self.inside.left.now c.read_frequent.new.room c.in-Ok-Some.field-0-is c.in-Ok-Some.ensures in
    let less = less_left c.self.inside.left.now c.read_frequent.new.room c.in-Ok-Some.behind.now line in
    let bound = c.self.invariant in
    omega arith

pub invariant_of-self : goal.invariant_of-self
invariant_of-self c =
    let line = some_line c.in-Ok-Some.field-0 c.in-Ok-Some.behind c.self.inside.left.now c.read_frequent.new.room c.in-Ok-Some.field-0-is c.in-Ok-Some.ensures in
    let less = less_left c.self.inside.left.now c.read_frequent.new.room c.in-Ok-Some.behind.now line in
    let bound = c.self.invariant in
    omega arith

pub returns-in-Ok-Some-clause-next : goal.returns-in-Ok-Some-clause-next
returns-in-Ok-Some-clause-next c =
    let line = some_line c.in-Ok-Some.field-0 c.in-Ok-Some.behind c.self.inside.left.now c.read_frequent.new.room c.in-Ok-Some.field-0-is c.in-Ok-Some.ensures in
    line_fills c.args.self.now c.self.inside.left.now c.in-Ok-Some.behind.now c.self.inside.line _ c.read_frequent.new.room c.self.view_is line (omega arith)

pub returns-in-Ok-Some-clause-shorter : goal.returns-in-Ok-Some-clause-shorter
returns-in-Ok-Some-clause-shorter c =
    let line = some_line c.in-Ok-Some.field-0 c.in-Ok-Some.behind c.self.inside.left.now c.read_frequent.new.room c.in-Ok-Some.field-0-is c.in-Ok-Some.ensures in
    λ _. subst (λ (l : LinesLeft). length c.in-Ok-Some.behind.now < length l.bytes) c.self.view_is (less_left c.self.inside.left.now c.read_frequent.new.room c.in-Ok-Some.behind.now line)
