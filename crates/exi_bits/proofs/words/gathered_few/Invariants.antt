use Rattle.std.proofs.Common.{◌≡◌, take}
use Rattle.exi_bits.specs.Bits.{bits, value_of}
use Rattle.exi_bits.proofs.words.gathered_few.Given as goal

abbrev pub invariant-loop-byte : goal.invariant-loop-byte
invariant-loop-byte l = l.all ≡ value_of (bits (take l.byte-index l.bytes))
