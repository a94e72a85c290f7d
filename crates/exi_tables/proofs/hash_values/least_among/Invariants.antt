use Rattle.std.proofs.Common.{◌≡◌}
use Rattle.exi_tables.specs.Kept.{least_of, lesser}
use Rattle.exi_tables.proofs.Lesser.{all_told}
use Rattle.exi_tables.proofs.hash_values.least_among.Given as goal

abbrev pub invariant-loop-place : goal.invariant-loop-place
invariant-loop-place l =
    lesser l.least (least_of (all_told l.fn.text l.fn.live) l.place-iterator) ≡ least_of (all_told l.fn.text l.fn.live) l.fn.spots.more
