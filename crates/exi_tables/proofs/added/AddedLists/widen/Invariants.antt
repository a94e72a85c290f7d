use Rattle.std.proofs.Common.{◌≡◌, ◌+◌, ◌-◌, ℕ, length}
use Rattle.exi_tables.specs.Added.{list_at}
use Rattle.exi_tables.specs.Kept.{IsUsed}
use Rattle.exi_tables.proofs.added.AddedLists.widen.Given as goal

abbrev pub invariant-loop-alloc : goal.invariant-loop-alloc
invariant-loop-alloc g l = IsUsed l.self-inside.used.items l.self-inside.lists.items × ((other : ℕ) → list_at l.self-inside.lists.items other ≡ list_at l.fn.self other)

abbrev pub decreases-loop-alloc : goal.decreases-loop-alloc
decreases-loop-alloc g l = l.uri + 1 - length l.self-inside.lists.items
