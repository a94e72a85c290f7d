use Rattle.std.proofs.Common.{◌≡◌, get_or}
use Rattle.exi_tables.proofs.Placed.{first_more}
use Rattle.exi_tables.proofs.first_tables.FirstTexts.of.Goals as goal

pub loop-text-preserved : goal.loop-text-preserved
loop-text-preserved c =
    let here : c.in_ok-copy.field-0 ≡ get_or c.args.texts.now c.loop-text.text-index c.in_ok-copy.field-0 = rw (← c.in_ok-copy.ensures) at c.text-item.is in
    rw c.in_ok-push.ensures.texts
    (first_more c.args.texts.now c.loop-text.copy.texts c.loop-text.text-index c.count-place.result c.loop-text.copy.known c.push.new.self.known c.in_ok-copy.field-0
    c.loop-text.invariant.0 c.loop-text-test.true here c.loop-text.invariant.1 c.in_ok-push.ensures.known c.count-place.ensures c.requires)
