use Rattle.std.proofs.Common.{◌≡◌, ℕ, ◌<◌, get_or, length}
use Rattle.xsd_slots.specs.Orders.{before_at}
use Rattle.xsd_slots.specs.Slots.{come_to}
use Rattle.xsd_slots.proofs.order.Order.of.Given as goal

abbrev pub invariant-loop-place : goal.invariant-loop-place
invariant-loop-place l = record {
  reached_count : length l.reached.items ≡ length l.fn.tree;
  reached : (p : ℕ) → p < length l.fn.tree → get_or l.reached.items p 0 ≡ come_to l.fn.tree l.place p;
  count : length l.before.items ≡ l.place;
  before : (k : ℕ) → k < l.place → get_or l.before.items k 0 ≡ before_at l.fn.tree k;
}
