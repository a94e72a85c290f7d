use Rattle.std.proofs.Common.{ℕ, ◌≡◌, ◌+◌, ◌≤◌, ◌++◌, length, map, drop}
use Rattle.exi_names.specs.Seen.{seen, vals, values_of}
use Rattle.exi_tape.specs.Rolls.{times}
use Rattle.exi_tape.specs.Spelling.{list_spelled, values_spelled}
use Rattle.exi_tape.proofs.write.+put.Given as goal

abbrev pub invariant-put_list-loop-value : goal.invariant-put_list-loop-value
invariant-put_list-loop-value l = record {
  bytes : l.roll.bytes ++ values_spelled (values_of (map seen (drop l.value-index l.list.items.items))) ≡ l.fn.roll.bytes ++ list_spelled (values_of (vals l.list));
  room : l.roll.room + length (list_spelled (values_of (vals l.list))) ≡ l.fn.roll.room + length (values_spelled (values_of (map seen (drop l.value-index l.list.items.items))));
  left : length (values_spelled (values_of (map seen (drop l.value-index l.list.items.items)))) ≤ l.roll.room;
  pages : (k : ℕ) → times k l.roll.pages ≡ times k l.fn.roll.pages;
}
