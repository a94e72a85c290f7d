use Rattle.std.proofs.Common.{◌≡◌, drop, map, length}
use Rattle.exi_names.specs.Seen.{seen, values_of, vals}
use Rattle.exi_names.specs.Equality.{all_equal}
use Rattle.exi_names.proofs.val.+same.Given as goal

abbrev pub invariant-ValList::same-loop-index : goal.invariant-ValList::same-loop-index
invariant-ValList::same-loop-index l = record {
  long : length l.self.items.items ≡ length l.other.items.items;
  same : all_equal (values_of (map seen (drop l.index l.self.items.items))) (values_of (map seen (drop l.index l.other.items.items))) ≡ all_equal (values_of (vals l.self)) (values_of (vals l.other));
}
