use Rattle.std.proofs.Common.{◌-◌, length}
use Rattle.exi_evtext.proofs.Lays.{plain_on, plain_whole}
use Rattle.exi_evtext.proofs.quote.is_plain.Goals as goal

pub loop-done-preserved : goal.loop-done-preserved
loop-done-preserved c = plain_on c.loop-done.done 16 c.args.bytes.now c.loop-done.invariant (c.few_stand.ensures c.if-not-few_stand.false)

pub returns : goal.returns
returns c = λ t. plain_whole (length c.args.bytes.now - 16) c.loop-done.done c.args.bytes.now c.loop-done-test.false c.loop-done.invariant (c.few_stand-2.ensures t)
