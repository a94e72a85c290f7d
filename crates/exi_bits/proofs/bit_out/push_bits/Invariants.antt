use Rattle.std.proofs.Common.{◌≡◌, ◌+◌, ◌/◌, ◌<◌, ◌≤◌, ◌^◌, ◌++◌, vec_len, vec_capacity}
use Rattle.exi_bits.specs.Bits.{bits, number_bits}
use Rattle.exi_bits.proofs.bit_out.push_bits.Given as goal

abbrev pub invariant-loop-left : goal.invariant-loop-left
invariant-loop-left l = record {
  so_far : bits l.bytes.items ++ number_bits l.left l.rest ≡ bits l.fn.bytes.items ++ number_bits l.width l.value;
  fits : l.rest < 2 ^ l.left;
  narrow : l.left ≤ 64;
  room : vec_len l.bytes + (l.left + 7) / 8 ≤ vec_capacity l.bytes;
}

abbrev pub decreases-loop-left : goal.decreases-loop-left
decreases-loop-left l = l.left
