use Rattle.std.proofs.Common.{◌-◌, ◌<◌, None, arith}
use Rattle.std.proofs.lemmas.Result.{err_from_is_err_and}
use Rattle.exi_names.specs.Seen.{seen, vals}
use Rattle.exi_tape.specs.Reading.{number_at, value_at, values_at}
use Rattle.exi_tape.specs.Walks.{left}
use Rattle.exi_tape.proofs.Rows.{in_row_ends, in_row_fails, in_row_goes, list_is, no_count, shallow, unread_on}
use Rattle.exi_tape.proofs.walk.Walk.+value.Goals as goal

pub list-returns-then-depth-eq0 : goal.list-returns-then-depth-eq0
list-returns-then-depth-eq0 t c = shallow c.args.depth (left c.args.self.now) c.if-depth-eq0.true

pub list-returns-in_err-count : goal.list-returns-in_err-count
list-returns-in_err-count t c =
    let p = err_from_is_err_and c.from_residual.result c.from_residual.ensures.1 in
    let some : 0 < c.args.depth = (let e = c.if-depth-eq0.false in omega arith) in
    rw (p.1, p.2) (unread_on c.in_err-count.field-0.0 (number_at (left c.args.self.now)) (values_at c.args.depth (left c.args.self.now)) c.in_err-count.ensures (λ n. no_count c.args.depth (left c.args.self.now) some n))

pub list-returns-in_err-value : goal.list-returns-in_err-value
list-returns-in_err-value t c =
    let p = err_from_is_err_and c.from_residual-in_err-value.result c.from_residual-in_err-value.ensures.1 in
    let some : 0 < c.args.depth = (let e = c.if-depth-eq0.false in omega arith) in
    rw (p.1, p.2) (unread_on c.in_err-value.field-0.0 (value_at (c.args.depth - 1) (left c.loop-number.self)) (values_at c.args.depth (left c.args.self.now)) c.in_err-value.ensures
    (λ n. list_is c.args.depth c.in_ok-count.count (left c.args.self.now) (left c.number.new.self) None some c.in_ok-count.ensures
    (in_row_fails (value_at (c.args.depth - 1)) c.in_ok-count.count c.loop-number._number (left c.number.new.self) (left c.loop-number.self) (vals c.loop-number.list) c.loop-number.invariant c.loop-number-test.true n)))

pub list-loop-number-preserved : goal.list-loop-number-preserved
list-loop-number-preserved t c =
    in_row_goes (value_at (c.args.depth - 1)) c.in_ok-count.count c.loop-number._number (left c.number.new.self) (left c.loop-number.self) (left c.value.new.self) (vals c.loop-number.list) (vals c.push.new.self) (seen c.in_ok-value.value)
    c.loop-number.invariant c.loop-number-test.true c.in_ok-value.ensures c.in_ok-push.ensures.ok

pub list-returns : goal.list-returns
list-returns t c =
    let test = c.loop-number-test.false in
    let some : 0 < c.args.depth = (let e = c.if-depth-eq0.false in omega arith) in
    list_is c.args.depth c.in_ok-count.count (left c.args.self.now) (left c.number.new.self) _ some c.in_ok-count.ensures
    (in_row_ends (value_at (c.args.depth - 1)) c.in_ok-count.count c.loop-number._number (left c.number.new.self) (left c.loop-number.self) (vals c.loop-number.list) c.loop-number.invariant (omega arith))
