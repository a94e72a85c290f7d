use Rattle.std.proofs.Common.{◌≡◌, true, take}
use Rattle.exi_lexical.specs.Spaces.{has_no_space}
use Rattle.xsd_derivations.proofs.union_members.cut.Given as goal

abbrev pub invariant-loop-index : goal.invariant-loop-index
invariant-loop-index l = has_no_space (take l.index l.fn.letters) ≡ true
