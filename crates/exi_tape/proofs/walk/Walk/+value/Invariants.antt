use Rattle.std.proofs.Common.{◌+◌, ◌*◌, ◌-◌}
use Rattle.exi_names.specs.Seen.{vals}
use Rattle.exi_tape.specs.Reading.{value_at}
use Rattle.exi_tape.specs.Walks.{left}
use Rattle.exi_tape.proofs.Rows.{InRow}
use Rattle.exi_tape.proofs.walk.Walk.+value.Given as goal

abbrev pub decreases-items : goal.decreases-items
decreases-items l = 3 * l.depth + 1

abbrev pub decreases-list : goal.decreases-list
decreases-list l = 3 * l.depth

abbrev pub decreases-value : goal.decreases-value
decreases-value l = 3 * l.depth + 2

abbrev pub invariant-list-loop-number : goal.invariant-list-loop-number
invariant-list-loop-number l = InRow (value_at (l.depth - 1)) l.count l._number (left l.initial.self) (vals l.list) (left l.self)
