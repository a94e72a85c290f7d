use Rattle.std.proofs.Common.{◌≡◌, ◌<◌, length, sym, ◌∙◌, arith}
use Rattle.std.proofs.lemmas.Result.{err_from_is_err_and}
use Rattle.exi_pattern.specs.Patterns.{at_start, piece, pieces}
use Rattle.exi_pattern.proofs.Shorter.{left_of, piece_left}
use Rattle.exi_pattern.proofs.Steps.{all_closed, next_piece, none_left_of, some_left_of, still_open, stopped}
use Rattle.exi_pattern.proofs.pieces.pieces.Goals as goal

pub returns-in_err-rest : goal.returns-in_err-rest
returns-in_err-rest c =
    let p = err_from_is_err_and c.from_residual.result c.from_residual.ensures.1 in
    rw (p.1, p.2) (stopped c.in_err-rest.field-0.0 c.loop-rest.reading c.loop-rest.rest.now _ (some_left_of (length c.loop-rest.rest.now) c.loop-rest-test.ensures) c.in_err-rest.ensures.read c.loop-rest.invariant.0)

pub loop-rest-smaller : goal.loop-rest-smaller
loop-rest-smaller c =
    left_of (length c.loop-rest.rest.now) (piece c.loop-rest.reading c.loop-rest.rest.now) (c.piece.new.self, c.in_ok-rest.rest.now) (piece_left c.loop-rest.reading c.loop-rest.rest.now) c.in_ok-rest.ensures.read

pub loop-rest-preserved : goal.loop-rest-preserved
loop-rest-preserved c =
    let short : length c.in_ok-rest.rest.now < length c.loop-rest.rest.now = left_of (length c.loop-rest.rest.now) (piece c.loop-rest.reading c.loop-rest.rest.now) (c.piece.new.self, c.in_ok-rest.rest.now) (piece_left c.loop-rest.reading c.loop-rest.rest.now) c.in_ok-rest.ensures.read in (
      next_piece c.loop-rest.reading c.loop-rest.rest.now (c.piece.new.self, c.in_ok-rest.rest.now) (some_left_of (length c.loop-rest.rest.now) c.loop-rest-test.ensures) c.in_ok-rest.ensures.read ∙ c.loop-rest.invariant.0,
      omega (arith, c.loop-rest.invariant.1, c.in_ok-rest.ensures.opened),
    )

pub returns-then-reading-gt0 : goal.returns-then-reading-gt0
returns-then-reading-gt0 c = still_open c.loop-rest.reading c.loop-rest.rest.now _ (none_left_of (length c.loop-rest.rest.now) c.loop-rest-test.ensures) c.if-reading-gt0.true c.loop-rest.invariant.0

pub returns : goal.returns
returns c = all_closed c.loop-rest.reading c.loop-rest.rest.now _ (none_left_of (length c.loop-rest.rest.now) c.loop-rest-test.ensures) (omega arith) c.loop-rest.invariant.0
