use Rattle.std.proofs.Common.{arith, subst, ◌∙◌}
use Rattle.std.proofs.lemmas.Result.{err_from_is_err_and}
use Rattle.exi_bits.specs.Repeat.{times, with_front}
use Rattle.exi_bits.specs.Unsigned.{StopsAs}
use Rattle.exi_text.specs.Literals.{code_at}
use Rattle.exi_text.proofs.Runs.{run_ends, widened_moves}
use Rattle.exi_text.proofs.read.add_others.Goals as goal

pub returns-in_err-left-clause-read : goal.returns-in_err-left-clause-read
returns-in_err-left-clause-read c =
    let p = err_from_is_err_and c.from_residual-in_err-left.result c.from_residual-in_err-left.ensures.1 in
    rw (p.1, p.2) (subst (λ r. StopsAs c.in_err-left.field-0.0 r) (widened_moves code_at c.add_short.new.text c.loop-left.left c.in_ok-add_short.field-0 c.from.result c.add_short.new.input (with_front c.loop-left.text (times code_at c.loop-left.left c.loop-left.input)) (with_front c.args.text.now (times code_at c.args.count c.args.input.now)) c.from.ensures c.in_ok-add_short.ensures.read c.loop-left.invariant.so_far) c.in_err-left.ensures.fault)

pub loop-left-preserved-then-left-gt0 : goal.loop-left-preserved-then-left-gt0
loop-left-preserved-then-left-gt0 c = record {
  so_far = c.in_ok-left.ensures.read ∙ widened_moves code_at c.add_short.new.text c.loop-left.left c.in_ok-add_short.field-0 c.from.result c.add_short.new.input (with_front c.loop-left.text (times code_at c.loop-left.left c.loop-left.input)) (with_front c.args.text.now (times code_at c.args.count c.args.input.now)) c.from.ensures c.in_ok-add_short.ensures.read c.loop-left.invariant.so_far;
  bytes = c.in_ok-left.ensures.bytes ∙ c.in_ok-add_short.ensures.bytes ∙ c.loop-left.invariant.bytes;
  phase = c.in_ok-left.ensures.phase ∙ c.in_ok-add_short.ensures.phase ∙ c.loop-left.invariant.phase;
}

pub loop-left-preserved : goal.loop-left-preserved
loop-left-preserved c = record {
  so_far = widened_moves code_at c.add_short.new.text c.loop-left.left c.in_ok-add_short.field-0 c.from.result c.add_short.new.input (with_front c.loop-left.text (times code_at c.loop-left.left c.loop-left.input)) (with_front c.args.text.now (times code_at c.args.count c.args.input.now)) c.from.ensures c.in_ok-add_short.ensures.read c.loop-left.invariant.so_far;
  bytes = c.in_ok-add_short.ensures.bytes ∙ c.loop-left.invariant.bytes;
  phase = c.in_ok-add_short.ensures.phase ∙ c.loop-left.invariant.phase;
}

pub returns-clause-read : goal.returns-clause-read
returns-clause-read c = run_ends code_at c.loop-left.text c.loop-left.left c.loop-left.input (with_front c.args.text.now (times code_at c.args.count c.args.input.now)) (omega (arith, c.loop-left-test.false)) c.loop-left.invariant.so_far
