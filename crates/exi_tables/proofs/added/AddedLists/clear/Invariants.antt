use Rattle.std.proofs.Common.{length}
use Rattle.exi_tables.specs.Kept.{IsUsed}
use Rattle.exi_tables.proofs.added.AddedLists.clear.Given as goal

abbrev pub invariant-loop-uri : goal.invariant-loop-uri
invariant-loop-uri g l = IsUsed l.self-inside.used.items l.self-inside.lists.items

abbrev pub decreases-loop-uri : goal.decreases-loop-uri
decreases-loop-uri g l = length l.self-inside.used.items
