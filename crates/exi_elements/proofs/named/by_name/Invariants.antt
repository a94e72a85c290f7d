use Rattle.std.proofs.Common.{◌≡◌, map, take}
use Rattle.exi_elements.proofs.ByName.{at}
use Rattle.exi_elements.proofs.named.by_name.Given as goal

abbrev pub invariant-loop-index : goal.invariant-loop-index
invariant-loop-index l = l.named ≡ map (at l.fn.places) (take l.index-index l.index-items)
