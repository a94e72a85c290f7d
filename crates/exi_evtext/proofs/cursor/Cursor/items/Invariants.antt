use Rattle.std.proofs.Common.{◌≡◌, ◌-◌}
use Rattle.exi_names.specs.Seen.{vals}
use Rattle.exi_evtext.specs.Reading.{items_at}
use Rattle.exi_evtext.proofs.Values.{behind_values}
use Rattle.exi_evtext.proofs.cursor.Cursor.items.Given as goal

-- the values so far stand in front of those that are still to be read
abbrev pub invariant-loop : goal.invariant-loop
invariant-loop l = behind_values (vals l.list) (items_at (l.count - l.counter) l.self) ≡ items_at l.count l.fn.self
