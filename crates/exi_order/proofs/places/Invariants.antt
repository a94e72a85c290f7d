use Rattle.std.proofs.Common.{◌≡◌, take}
use Rattle.exi_gram.specs.Laws.{places_from}
use Rattle.exi_order.specs.Keys.{keys_of}
use Rattle.exi_order.proofs.places.Given as goal

abbrev pub invariant-loop-place : goal.invariant-loop-place
invariant-loop-place l = l.places.items ≡ places_from 0 (take l.place (keys_of l.keys))
