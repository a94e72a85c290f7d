use Rattle.std.proofs.Common.{◌≡◌, ◌∷◌}
use Rattle.exi_tables.specs.Kept.{least_of, lesser}
use Rattle.exi_tables.proofs.Lesser.{own_told}
use Rattle.exi_tables.proofs.hash_values.own_among.Given as goal

abbrev pub invariant-loop-place : goal.invariant-loop-place
invariant-loop-place l =
    lesser l.least (least_of (own_told l.fn.name l.fn.text l.fn.live) l.place-iterator) ≡ least_of (own_told l.fn.name l.fn.text l.fn.live) (l.fn.spots.least ∷ l.fn.spots.more)
