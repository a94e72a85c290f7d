use Rattle.std.proofs.Common.{◌≡◌, ◌++◌, ◌-◌, drop, length}
use Rattle.std.specs.Prelude.{reverse}
use Rattle.exi_normal.proofs.walk.come_to.Given as goal

abbrev pub invariant-loop-index : goal.invariant-loop-index
invariant-loop-index l = reverse l.todo.items ≡ drop (length l.moves - l.index) l.moves ++ reverse l.fn.todo.items
