use Rattle.std.proofs.Common.{◌≡◌, [], length}
use Rattle.exi_tables.proofs.own_places.OwnPlaces.clear.Given as goal

abbrev pub invariant-loop-row : goal.invariant-loop-row
invariant-loop-row l = l.self-inside.numbers ≡ []

abbrev pub decreases-loop-row : goal.decreases-loop-row
decreases-loop-row l = length l.self-inside.rows.items
