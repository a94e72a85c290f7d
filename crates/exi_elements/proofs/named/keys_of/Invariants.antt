use Rattle.std.proofs.Common.{◌≡◌, map, take}
use Rattle.exi_order.specs.Keys.{keys_of}
use Rattle.exi_elements.specs.StandIns.{element_pair}
use Rattle.exi_elements.proofs.named.keys_of.Given as goal

abbrev pub invariant-loop-place : goal.invariant-loop-place
invariant-loop-place l = keys_of l.keys.items ≡ map (element_pair l.fn.parts) (take l.place-index l.fn.places)
