use Rattle.std.proofs.Common.{◌≡◌, ◌+◌, ◌*◌, ◌<◌, ◌≤◌, ◌^◌, ◌++◌, take, vec_len, vec_capacity}
use Rattle.exi_bits.specs.Bits.{bits, number_bits}
use Rattle.exi_bits.proofs.bit_out.push_words.Given as goal

abbrev pub invariant-loop-word : goal.invariant-loop-word
invariant-loop-word l = record {
  so_far : bits l.bytes.items ++ number_bits l.behind l.tail ≡ (bits l.fn.bytes.items ++ number_bits l.behind l.first) ++ bits (take (l.word * 8) l.octets);
  fits : l.tail < 2 ^ l.behind;
  len : vec_len l.bytes ≡ vec_len l.fn.bytes + l.word * 8;
  capacity : vec_capacity l.fn.bytes ≤ vec_capacity l.bytes;
}
