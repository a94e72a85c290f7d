use Rattle.std.proofs.Common.{◌≡◌, drop}
use Rattle.exi_lexical.specs.Spaces.{without_front}
use Rattle.xsd_derivations.proofs.union_members.skip_front.Given as goal

abbrev pub invariant-loop-index : goal.invariant-loop-index
invariant-loop-index l = without_front (drop l.index l.fn.letters) ≡ without_front l.fn.letters
