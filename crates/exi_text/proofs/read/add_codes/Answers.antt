use Rattle.std.proofs.Common.{◌∙◌}
use Rattle.std.proofs.lemmas.Result.{err_from_is_err_and}
use Rattle.exi_bits.specs.Repeat.{times, with_front}
use Rattle.exi_bits.proofs.Repeats.{times_fails, times_goes_on}
use Rattle.exi_text.specs.Literals.{code_at}
use Rattle.exi_text.proofs.read.add_codes.Goals as goal

pub returns-in_err-c-clause-fault : goal.returns-in_err-c-clause-fault
returns-in_err-c-clause-fault c =
    let p = err_from_is_err_and c.from_residual.result c.from_residual.ensures.1 in
    rw (p.1, p.2) (times_fails code_at c.loop-before.text c.args.most c.loop-before.before c.loop-before.input c.in_err-c.field-0.0 (with_front c.args.text.now (times code_at c.args.most c.args.input.now)) c.loop-before-test.true c.in_err-c.ensures.read.0 c.loop-before.invariant.so_far)

pub returns-then-is_ascii-clause-read : goal.returns-then-is_ascii-clause-read
returns-then-is_ascii-clause-read c = rw c.in_ok-push.ensures.ok (times_goes_on code_at c.loop-before.text c.args.most c.loop-before.before c.loop-before.input c.code.new.input c.in_ok-c.c (with_front c.args.text.now (times code_at c.args.most c.args.input.now)) c.loop-before-test.true c.in_ok-c.ensures.read c.loop-before.invariant.so_far)

pub loop-before-preserved : goal.loop-before-preserved
loop-before-preserved c = record {
  so_far = rw c.in_ok-push.ensures.ok (times_goes_on code_at c.loop-before.text c.args.most c.loop-before.before c.loop-before.input c.code.new.input c.in_ok-c.c (with_front c.args.text.now (times code_at c.args.most c.args.input.now)) c.loop-before-test.true c.in_ok-c.ensures.read c.loop-before.invariant.so_far);
  bytes = c.in_ok-c.ensures.bytes ∙ c.loop-before.invariant.bytes;
  phase = c.in_ok-c.ensures.phase ∙ c.loop-before.invariant.phase;
}
