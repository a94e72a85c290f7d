use Rattle.std.proofs.Common.{arith, filter}
use Rattle.exi_builtin.specs.BuiltIn.{is_kept}
use Rattle.exi_builtin.proofs.Layouts.{grouped_none, grouped_some, kept_laid, laid_length}
use Rattle.exi_builtin.proofs.reading.second_count.Goals as goal

pub returns-then-kept_count-gt0 : goal.returns-then-kept_count-gt0
returns-then-kept_count-gt0 c =
    let keep = is_kept c.args.options.now in
    let singles = filter keep c.args.written.now.singles.now in
    let members = filter keep c.args.written.now.members.now in
    rw (kept_laid keep c.args.written.now.singles.now c.args.written.now.members.now)
    (omega (arith, laid_length singles members, grouped_some members (omega arith)))

pub returns : goal.returns
returns c =
    let keep = is_kept c.args.options.now in
    let singles = filter keep c.args.written.now.singles.now in
    let members = filter keep c.args.written.now.members.now in
    rw (kept_laid keep c.args.written.now.singles.now c.args.written.now.members.now)
    (omega (arith, laid_length singles members, grouped_none members (omega arith)))
