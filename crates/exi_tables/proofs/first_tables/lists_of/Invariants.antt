use Rattle.std.proofs.Common.{◌≡◌, take}
use Rattle.exi_tables.proofs.first_tables.lists_of.Given as goal

abbrev pub invariant-loop-list : goal.invariant-loop-list
invariant-loop-list l = l.all.items ≡ take l.list-index l.lists
