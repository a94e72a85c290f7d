use Rattle.std.proofs.Common.{◌≡◌, ◌++◌, drop, map}
use Rattle.exi_gram.specs.Terminals.{rule}
use Rattle.exi_normal.specs.Normals.{rules_from, with_rows}
use Rattle.exi_normal.specs.Spots.{row_at}
use Rattle.exi_normal.proofs.work.rules.Given as goal

abbrev pub invariant-loop-spot : goal.invariant-loop-spot
invariant-loop-spot l = (map rule l.rules ++ rules_from l.own (map row_at (drop l.spot-index l.spots)) l.lists ≡ rules_from l.own (map row_at l.spots) l.fn.lists) × (with_rows (map row_at (drop l.spot-index l.spots)) l.lists ≡ with_rows (map row_at l.spots) l.fn.lists)
