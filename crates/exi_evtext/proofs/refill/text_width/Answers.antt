use Rattle.std.proofs.Common.{◌+◌, arith}
use Rattle.exi_evtext.proofs.Refills.{front_on, plain_in}
use Rattle.exi_evtext.proofs.refill.text_width.Goals as goal

pub returns-then-wide-eq0 : goal.returns-then-wide-eq0
returns-then-wide-eq0 c = front_on c.args.bytes.now c.loop-done.done c.plain_lanes-run.result c.loop-done.invariant (plain_in c.args.bytes.now c.loop-done.done c.plain_lanes-run.result (omega arith) c.plain_lanes-run.ensures)

pub loop-done-preserved-then-run-lt-WIDE : goal.loop-done-preserved-then-run-lt-WIDE
loop-done-preserved-then-run-lt-WIDE c =
    front_on c.args.bytes.now (c.loop-done.done + c.plain_lanes-run.result) c.wide_len-wide.result
    (front_on c.args.bytes.now c.loop-done.done c.plain_lanes-run.result c.loop-done.invariant (plain_in c.args.bytes.now c.loop-done.done c.plain_lanes-run.result (omega arith) c.plain_lanes-run.ensures)) c.wide_len-wide.ensures

pub loop-done-preserved : goal.loop-done-preserved
loop-done-preserved c = front_on c.args.bytes.now c.loop-done.done c.plain_lanes-run.result c.loop-done.invariant (plain_in c.args.bytes.now c.loop-done.done c.plain_lanes-run.result (omega arith) c.plain_lanes-run.ensures)
