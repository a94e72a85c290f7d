use Rattle.std.proofs.Common.{◌≡◌, [], drop}
use Rattle.exi_normal.specs.Numbers.{AreNoted, groups_from}
use Rattle.exi_normal.proofs.groups.groups_from.Given as goal

abbrev pub invariant-loop-reading : goal.invariant-loop-reading
invariant-loop-reading l = (groups_from l.groups.items (drop l.reading-index l.readings) ≡ groups_from [] l.readings) × AreNoted l.notes l.groups.items
