use Rattle.std.proofs.Common.{arith}
use Rattle.exi_names.specs.Seen.{seen, vals}
use Rattle.exi_evtext.proofs.Values.{values_done, values_go_on}
use Rattle.exi_evtext.proofs.cursor.Cursor.items.Goals as goal

pub loop-preserved : goal.loop-preserved
loop-preserved c =
    values_go_on (vals c.loop.list) (vals c.push.new.self) c.args.count c.loop.counter c.loop.self c.past.new.self c.item.new.self (seen c.in_ok-item.item) _ c.loop-test.true c.in_ok-past.ensures c.in_ok-item.ensures
    c.in_ok-push.ensures.ok c.loop.invariant

pub returns : goal.returns
returns c = values_done (vals c.loop.list) c.args.count c.loop.counter c.loop.self _ (omega (arith, c.loop-test.false, c.loop.auto.counter-end)) c.loop.invariant
