use Rattle.std.proofs.Common.{◌≡◌, ◌+◌, ◌-◌, ℕ, None, get_or, length}
use Rattle.exi_names.proofs.name_map.Row.widen.Given as goal

abbrev pub invariant-loop-self : goal.invariant-loop-self
invariant-loop-self g l = (k : ℕ) → get_or l.self-inside.items.items k None ≡ get_or l.fn.self k None

abbrev pub decreases-loop-self : goal.decreases-loop-self
decreases-loop-self g l = l.local + 1 - length l.self-inside.items.items
