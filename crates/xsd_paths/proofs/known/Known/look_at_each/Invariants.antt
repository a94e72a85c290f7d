use Rattle.xsd_paths.specs.Marks.{AreKnown}
use Rattle.xsd_paths.proofs.known.Known.look_at_each.Given as goal

abbrev pub invariant-loop-place : goal.invariant-loop-place
invariant-loop-place l = AreKnown l.fn.steps l.self.order.items l.self.marks.items
