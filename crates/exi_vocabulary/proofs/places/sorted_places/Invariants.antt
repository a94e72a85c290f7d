use Rattle.std.proofs.Common.{◌≡◌, get_or, map, take}
use Rattle.exi_order.specs.Keys.{keys_of}
use Rattle.exi_vocabulary.specs.Vocabulary.{pair_at}
use Rattle.exi_vocabulary.proofs.places.sorted_places.Given as goal

abbrev pub invariant-loop-place : goal.invariant-loop-place
invariant-loop-place l = keys_of l.chosen.items ≡ map (pair_at (keys_of l.keys)) (take l.place-index l.places)

abbrev pub invariant-loop-place-2 : goal.invariant-loop-place-2
invariant-loop-place-2 l = l.sorted ≡ map (λ p. get_or l.places p 0) (take l.place-index l.place-items)
