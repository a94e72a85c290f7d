use Rattle.std.proofs.lemmas.Result.{err_from_is_err_and}
use Rattle.exi_evtext.specs.Parsing.{events_left}
use Rattle.exi_run.proofs.Writes.{list_done, stopped_err}
use Rattle.exi_run.proofs.compose.compose_by.Goals as goal

pub returns-in_err-list : goal.returns-in_err-list
returns-in_err-list c = λ w known head_is same.
    let p = err_from_is_err_and c.from_residual.result c.from_residual.ensures.1 in
    rw (p.1, p.2) tt

pub returns-in_err-write_lines : goal.returns-in_err-write_lines
returns-in_err-write_lines c = λ w known head_is same.
    let p = err_from_is_err_and c.from_residual-in_err-write_lines.result c.from_residual-in_err-write_lines.ensures.1 in
    rw (p.1, p.2) (stopped_err c.in_err-write_lines.field-0.0 w known c.args.text.now (events_left c.new-lines.result) c.in_ok-list.list c.write_lines.new.list c.new-lines.ensures.events c.in_err-write_lines.ensures)

pub returns : goal.returns
returns c = λ w known head_is same.
    list_done c.finished.result w known c.args.text.now c.args.head c.args.book.now c.of_stream-limits.result c.in_ok-list.list c.write_lines.new.list
    record { left = events_left c.new-lines.result; says = c.new-lines.ensures.events; head_is = head_is; book = same; within = c.of_stream-limits.ensures; begins = c.in_ok-list.ensures.begins; taken = c.in_ok-write_lines.ensures }
    c.finished.ensures
