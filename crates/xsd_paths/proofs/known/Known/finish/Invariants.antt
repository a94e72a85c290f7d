use Rattle.std.proofs.Common.{◌-◌, length}
use Rattle.xsd_paths.specs.Marks.{AreKnown}
use Rattle.xsd_paths.proofs.known.Known.finish.Given as goal

abbrev pub invariant-loop : goal.invariant-loop
invariant-loop l = AreKnown l.fn.steps l.self.order.items l.self.marks.items

abbrev pub decreases-loop : goal.decreases-loop
decreases-loop l = length l.fn.steps - length l.self.order.items
