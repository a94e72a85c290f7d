use Rattle.std.proofs.Common.{◌≡◌, ◌++◌, length, map}
use Rattle.exi_lexical.specs.Spaces.{words}
use Rattle.xsd_derivations.specs.Derivations.{member_named}
use Rattle.xsd_derivations.proofs.union_members.named_in.Given as goal

abbrev pub invariant-loop-word : goal.invariant-loop-word
invariant-loop-word l = l.found.items ++ map (member_named l.fn.schema l.fn.place) (words l.rest) ≡ map (member_named l.fn.schema l.fn.place) (words l.fn.letters)

abbrev pub decreases-loop-word : goal.decreases-loop-word
decreases-loop-word l = length l.rest
