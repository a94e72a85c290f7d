use Rattle.std.proofs.Common.{◌≡◌, map}
use Rattle.exi_compile.specs.Order.{item, element_places_from}
use Rattle.exi_compile.proofs.NextItem.{elements_on}
use Rattle.exi_compile.proofs.order.element_places.Given as goal

abbrev pub invariant-loop-place : goal.invariant-loop-place
invariant-loop-place l = elements_on l.places.items l.place l.items ≡ element_places_from 2 (map item l.items)
