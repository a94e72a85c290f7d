use Rattle.std.proofs.Common.{◌≡◌, ◌≤◌, length}
use Rattle.xsd_paths.specs.Marks.{AreKnown, AreSettled}
use Rattle.xsd_paths.proofs.known.Known.look_at_all.Given as goal

abbrev pub invariant-loop-place : goal.invariant-loop-place
invariant-loop-place l = record {
  known : AreKnown l.fn.steps l.self.order.items l.self.marks.items;
  longer : length l.fn.self.order.items ≤ length l.self.order.items;
  settled : length l.self.order.items ≡ length l.fn.self.order.items → AreSettled l.place l.fn.steps l.self.marks.items;
}
