use Rattle.std.proofs.Common.{◌≡◌, All, length}
use Rattle.xsd_slots.proofs.order.zeros.Given as goal

abbrev pub invariant-loop : goal.invariant-loop
invariant-loop l = record {
  count : length l.numbers.items ≡ l.counter;
  zero : All (λ n. n ≡ 0) l.numbers.items;
}
