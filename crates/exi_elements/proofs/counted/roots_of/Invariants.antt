use Rattle.std.proofs.Common.{◌≡◌, take}
use Rattle.std.specs.List.{filter}
use Rattle.exi_gram.specs.Laws.{places_from}
use Rattle.xsd_model.specs.Parts.{heads_at}
use Rattle.exi_elements.specs.Members.{has_none}
use Rattle.exi_elements.proofs.counted.roots_of.Given as goal

abbrev pub invariant-loop-place : goal.invariant-loop-place
invariant-loop-place l = l.places.items ≡ filter (λ x. has_none (heads_at l.fn.parts x)) (take l.place (places_from 0 l.fn.parts.elements))
