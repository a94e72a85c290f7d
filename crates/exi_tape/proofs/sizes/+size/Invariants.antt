use Rattle.std.proofs.Common.{◌≡◌, ◌+◌, ◌-◌, ◌^◌, ◌≤◌, length, map, drop}
use Rattle.exi_names.specs.Seen.{seen, vals, values_of}
use Rattle.exi_tape.specs.Rolls.{capped}
use Rattle.exi_tape.specs.Sound.{SoundValues}
use Rattle.exi_tape.specs.Spelling.{list_spelled, values_spelled}
use Rattle.exi_tape.proofs.sizes.+size.Given as goal

abbrev pub invariant-list_size-loop-value : goal.invariant-list_size-loop-value
invariant-list_size-loop-value l = record {
  size : capped (l.size + length (values_spelled (values_of (map seen (drop l.value-index l.list.items.items))))) ≡ capped (length (list_spelled (values_of (vals l.list))));
  sound : SoundValues (values_of (map seen (drop l.value-index l.list.items.items))) → SoundValues (values_of (vals l.list));
  few : l.size ≤ 2 ^ 64 - 1;
}
