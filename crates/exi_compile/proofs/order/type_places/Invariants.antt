use Rattle.std.proofs.Common.{◌≡◌, map}
use Rattle.exi_compile.specs.Order.{item, type_places_from}
use Rattle.exi_compile.proofs.NextItem.{types_on}
use Rattle.exi_compile.proofs.order.type_places.Given as goal

abbrev pub invariant-loop-place : goal.invariant-loop-place
invariant-loop-place l = types_on l.places.items l.place l.items ≡ type_places_from 2 (map item l.items)
