use Rattle.std.proofs.Common.{◌∙◌, refl}
use Rattle.std.proofs.lemmas.Result.{err_from_is_err_and}
use Rattle.exi_bits.specs.Repeat.{times}
use Rattle.exi_bits.proofs.Repeats.{times_starts, times_goes_on, times_fails, times_done}
use Rattle.exi_text.specs.Literals.{in_set_at}
use Rattle.exi_text.proofs.read.characters.Goals as goal

pub loop-init : goal.loop-init
loop-init c = record {
  so_far = rw (c.reserve.ensures, c.requires.empty) (times_starts (in_set_at c.args.set.now c.args.align) c.args.count c.args.input.now);
  aligned = c.requires.aligned;
  bytes = refl;
}

pub returns-in_err-c-clause-read : goal.returns-in_err-c-clause-read
returns-in_err-c-clause-read c =
    let p = err_from_is_err_and c.from_residual-in_err-c.result c.from_residual-in_err-c.ensures.1 in
    rw (p.1, p.2) (times_fails (in_set_at c.args.set.now c.args.align) c.loop.text c.args.count c.loop.counter c.loop.input c.in_err-c.field-0.0 (times (in_set_at c.args.set.now c.args.align) c.args.count c.args.input.now) c.loop-test.true c.in_err-c.ensures.read c.loop.invariant.so_far)

pub loop-preserved : goal.loop-preserved
loop-preserved c = record {
  so_far = rw c.in_ok-push.ensures.ok (times_goes_on (in_set_at c.args.set.now c.args.align) c.loop.text c.args.count c.loop.counter c.loop.input c.in_set.new.input c.in_ok-c.c (times (in_set_at c.args.set.now c.args.align) c.args.count c.args.input.now) c.loop-test.true c.in_ok-c.ensures.read c.loop.invariant.so_far);
  aligned = c.in_ok-c.ensures.aligned;
  bytes = c.in_ok-c.ensures.bytes ∙ c.loop.invariant.bytes;
}

pub returns-clause-read : goal.returns-clause-read
returns-clause-read c = times_done (in_set_at c.args.set.now c.args.align) c.loop.text c.args.count c.loop.counter c.loop.input (times (in_set_at c.args.set.now c.args.align) c.args.count c.args.input.now) c.loop-test.false c.loop.invariant.so_far
