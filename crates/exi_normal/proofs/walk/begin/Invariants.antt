use Rattle.std.proofs.Common.{◌≡◌, ◌++◌, ◌-◌, drop, length, map}
use Rattle.std.specs.Prelude.{reverse}
use Rattle.exi_normal.specs.Numbers.{into}
use Rattle.exi_normal.proofs.walk.begin.Given as goal

abbrev pub invariant-loop-index : goal.invariant-loop-index
invariant-loop-index l = reverse l.todo.items ≡ drop (length l.members - l.index) (map into l.members) ++ reverse l.fn.todo.items
