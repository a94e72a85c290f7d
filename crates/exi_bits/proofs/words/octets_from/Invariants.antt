use Rattle.std.proofs.Common.{◌≡◌, ◌*◌, drop}
use Rattle.exi_bits.specs.Bits.{bits, octets_of}
use Rattle.exi_bits.proofs.words.octets_from.Given as goal

abbrev pub invariant-loop-word : goal.invariant-loop-word
invariant-loop-word l = l.octets.items ≡ octets_of (8 * l.word) (drop l.place (bits l.bytes))

abbrev pub invariant-loop-octet : goal.invariant-loop-octet
invariant-loop-octet l = l.octets.items ≡ octets_of l.octet (drop l.place (bits l.bytes))
