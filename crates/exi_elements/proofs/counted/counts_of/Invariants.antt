use Rattle.std.proofs.Common.{◌≡◌, ◌≤◌, All, drop, length}
use Rattle.exi_elements.proofs.Counting.{IsCounted}
use Rattle.exi_elements.proofs.counted.counts_of.Given as goal

abbrev pub invariant-loop-index : goal.invariant-loop-index
invariant-loop-index l = record {
  count : length l.counts.items ≡ length l.fn.parts.elements;
  within : l.index ≤ length l.order.items;
  counted : All (IsCounted l.fn.parts l.counts.items) (drop l.index l.order.items);
}

abbrev pub decreases-loop-index : goal.decreases-loop-index
decreases-loop-index l = l.index
