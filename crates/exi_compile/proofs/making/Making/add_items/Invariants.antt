use Rattle.std.proofs.Common.{◌≡◌, drop, map}
use Rattle.exi_compiled.specs.Compiled.{with_items}
use Rattle.exi_compile.specs.Makings.{made_of}
use Rattle.exi_compile.specs.Order.{item}
use Rattle.exi_compile.proofs.making.Making.add_items.Given as goal

abbrev pub invariant-loop-item : goal.invariant-loop-item
invariant-loop-item l = with_items l.source.parts.now (map item (drop l.item-index l.items)) (made_of l.self) ≡ with_items l.source.parts.now (map item l.items) (made_of l.fn.self)
