use Rattle.std.proofs.Common.{◌≡◌, ◌+◌, ◌-◌, ◌≤◌, ◌++◌, vec_len, vec_capacity}
use Rattle.exi_bits.specs.Bits.{le_bytes}
use Rattle.exi_bits.proofs.bit_out.push_bytes.Given as goal

abbrev pub invariant-loop : goal.invariant-loop
invariant-loop l = record {
  so_far : l.bytes.items ++ le_bytes (l.count - l.counter) l.rest ≡ l.fn.bytes.items ++ le_bytes l.count l.value;
  room : vec_len l.bytes + (l.count - l.counter) ≤ vec_capacity l.bytes;
}
