use Rattle.std.proofs.Common.{◌≡◌, drop}
use Rattle.exi_lexical.specs.Spaces.{has_no_space}
use Rattle.exi_lexical.proofs.binaries.is_solid.Given as goal

abbrev pub invariant-loop-byte : goal.invariant-loop-byte
invariant-loop-byte l = has_no_space (drop l.byte-index l.text) ≡ has_no_space l.text
