use Rattle.exi_compile.specs.Makings.{IsItem}
use Rattle.exi_compile.proofs.Added.{item_there}
use Rattle.exi_compile.proofs.making.Making.add_items.Goals as goal

pub add_item-requires-clause-there : goal.add_item-requires-clause-there
add_item-requires-clause-there c = item_there (IsItem c.args.source.now.parts.now) c.args.items.now c.loop-item.item-index _ c.loop-item-test.true c.requires.there
