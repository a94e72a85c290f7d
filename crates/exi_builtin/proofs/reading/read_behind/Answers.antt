use Rattle.std.proofs.Common.{◌≡◌, ◌++◌, Some, None}
use Rattle.std.proofs.lemmas.Result.{err_from_is_err_and}
use Rattle.exi_gram.specs.Switches.{align_of}
use Rattle.exi_gram.specs.Codes.{code_at, kept_seconds, second_at}
use Rattle.exi_builtin.specs.BuiltIn.{is_kept, left_of, written}
use Rattle.exi_builtin.specs.Learning.{behind_learned}
use Rattle.exi_builtin.proofs.Shapes.{first_fails, first_tells, left_shape}
use Rattle.exi_builtin.proofs.reading.read_behind.Goals as goal

pub returns-in_err-first-clause-read : goal.returns-in_err-first-clause-read
returns-in_err-first-clause-read c =
    let o = c.args.options.now in
    let p = err_from_is_err_and c.from_residual.result c.from_residual.ensures.1 in
    rw (p.1, p.2)
    (first_fails (align_of o) c.align.result _ (c.args.learned.now ++ (written c.args.room).firsts) (kept_seconds (is_kept o) (written c.args.room).seconds) c.first_count-values.result c.args.input.now c.in_err-first.field-0.0 (left_shape o c.args.room c.args.learned.now) c.align.ensures c.first_count-values.ensures c.in_err-first.ensures.read.0)

pub returns-in-Some-clause-read : goal.returns-in-Some-clause-read
returns-in-Some-clause-read c =
    let o = c.args.options.now in
    first_tells (align_of o) c.align.result _ (c.args.learned.now ++ (written c.args.room).firsts) (kept_seconds (is_kept o) (written c.args.room).seconds) c.first_count-values.result c.in_ok-first.first c.args.input.now c.read_part.new.input (Some c.in-Some.production) (left_shape o c.args.room c.args.learned.now) c.align.ensures c.first_count-values.ensures c.in_ok-first.ensures.read c.in-Some.ensures

pub returns-in-None-clause-read : goal.returns-in-None-clause-read
returns-in-None-clause-read c =
    let o = c.args.options.now in
    let seconds = kept_seconds (is_kept o) (written c.args.room).seconds in
    let read : code_at (align_of o) (behind_learned c.args.learned.now (left_of o (written c.args.room))) c.args.input.now ≡ second_at (align_of o) seconds c.read_part.new.input
    = first_tells (align_of o) c.align.result _ (c.args.learned.now ++ (written c.args.room).firsts) seconds c.first_count-values.result c.in_ok-first.first c.args.input.now c.read_part.new.input None (left_shape o c.args.room c.args.learned.now) c.align.ensures c.first_count-values.ensures c.in_ok-first.ensures.read c.in-None.ensures in
    rw read c.read_apart.ensures.read
