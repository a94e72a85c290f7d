use Rattle.std.proofs.lemmas.Result.{err_from_is_err_and}
use Rattle.exi_options.proofs.Steps.{part_fails, part_tells}
use Rattle.exi_options.proofs.read.read_code.Goals as goal

pub returns-in_err-place-clause-read : goal.returns-in_err-place-clause-read
returns-in_err-place-clause-read c =
    let p = err_from_is_err_and c.from_residual.result c.from_residual.ensures.1 in
    rw (p.1, p.2) (part_fails c.args.state c.codes-codes.result.now c.args.input.now c.in_err-place.field-0.0 c.codes-codes.ensures.codes c.in_err-place.ensures.read.0)

pub returns-clause-read : goal.returns-clause-read
returns-clause-read c =
    part_tells c.args.state c.codes-codes.result.now c.args.input.now c.read_part.new.input c.in_ok-place.place _ c.codes-codes.ensures.codes c.in_ok-place.ensures.below c.in_ok-place.ensures.read
