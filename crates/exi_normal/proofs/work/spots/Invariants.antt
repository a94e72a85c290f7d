use Rattle.std.proofs.Common.{◌≡◌, map, take}
use Rattle.exi_normal.specs.Spots.{row_at, row_seen}
use Rattle.exi_normal.specs.Steps.{symbols}
use Rattle.exi_normal.proofs.work.spots.Given as goal

abbrev pub invariant-loop-group : goal.invariant-loop-group
invariant-loop-group l = map row_at l.spots.items ≡ map (row_seen (symbols l.numbered.terminals)) (take l.group-index l.groups)
