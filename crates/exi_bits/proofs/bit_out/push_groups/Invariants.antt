use Rattle.std.proofs.Common.{◌≡◌, ◌+◌, ◌-◌, ◌*◌, ◌^◌, ◌≤◌, ◌<◌, ◌++◌, vec_len, vec_capacity}
use Rattle.exi_bits.specs.Bits.{bits}
use Rattle.exi_bits.specs.Unsigned.{groups, shortest}
use Rattle.exi_bits.specs.Written.{written, IsPadded}
use Rattle.exi_bits.proofs.bit_out.push_groups.Given as goal

abbrev pub invariant-loop : goal.invariant-loop
invariant-loop l = record {
  so_far : written l.bytes.items l.spare ++ bits (groups (18 - l.counter) l.rest) ≡ written l.fn.bytes.items l.spare ++ bits (shortest l.value);
  padded : IsPadded l.bytes.items l.spare;
  below : l.rest < 2 ^ (128 - 7 * l.counter);
  room : vec_len l.bytes + (19 - l.counter) ≤ vec_capacity l.bytes;
}
