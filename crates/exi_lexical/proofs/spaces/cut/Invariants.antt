use Rattle.std.proofs.Common.{◌≡◌, true, take}
use Rattle.exi_lexical.specs.Spaces.{has_no_space}
use Rattle.exi_lexical.proofs.spaces.cut.Given as goal

abbrev pub invariant-loop-index : goal.invariant-loop-index
invariant-loop-index l = record {
  word : has_no_space (take l.index l.bytes) ≡ true;
  whole : l.bytes ≡ l.text;
}
