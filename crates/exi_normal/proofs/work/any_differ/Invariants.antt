use Rattle.std.proofs.Common.{◌≡◌, drop, map}
use Rattle.exi_normal.specs.Normals.{any_differ}
use Rattle.exi_normal.specs.Spots.{row_at}
use Rattle.exi_normal.proofs.work.any_differ.Given as goal

abbrev pub invariant-loop-spot : goal.invariant-loop-spot
invariant-loop-spot l = any_differ (map row_at (drop l.spot-index l.spots)) ≡ any_differ (map row_at l.spots)
