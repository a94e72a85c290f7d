use Rattle.std.proofs.Common.{◌≡◌, flat_map, take}
use Rattle.exi_compile.specs.Entries.{named_at}
use Rattle.exi_compile.proofs.entries.named_from.Given as goal

abbrev pub invariant-loop-place : goal.invariant-loop-place
invariant-loop-place l = l.named ≡ flat_map (named_at l.elements l.grammars l.agree l.otherwise) (take l.place-index l.places)
