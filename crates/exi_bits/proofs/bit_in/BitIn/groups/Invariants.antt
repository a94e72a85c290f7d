use Rattle.std.proofs.Common.{◌≡◌, ◌*◌, ◌-◌, ◌<◌, ◌≤◌, ◌^◌, ◌%◌}
use Rattle.exi_bits.specs.Unsigned.{groups_at}
use Rattle.exi_bits.proofs.Groups.{with_first, with_low}
use Rattle.exi_bits.proofs.bit_in.BitIn.groups.Given as goal

abbrev pub invariant-loop-group : goal.invariant-loop-group
invariant-loop-group l = record {
  some : 1 ≤ l.group;
  so_far : with_low l.value (7 * l.group) (groups_at (19 - l.group) l.self) ≡ with_first l.fn.first l.fn.self;
  low : l.value < 2 ^ (7 * l.group);
  bytes : l.self.bytes ≡ l.fn.self.bytes;
  phase : l.self.place % 8 ≡ l.fn.self.place % 8;
}
